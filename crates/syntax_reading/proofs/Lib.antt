-- Words and the tokens of fields, and how expressions are spelled in words.
pub mod FieldTokens
pub mod Binding
pub mod Spelling
pub mod WordLaws
pub mod Shaped
pub mod SpellingLaws
pub mod Choices
-- For `expressions_are_read`: what is read is spelled so.
pub mod ItemsFound
pub mod EachFound
pub mod Lists
pub mod FoundParts
pub mod FoundAtoms
pub mod FoundLevels
-- And what is spelled so is read.
pub mod Following
pub mod ItemsOnly
pub mod OnlyAtoms
pub mod OnlyLevels
-- For `expressions_are_read`: expressions of spelled tokens are levelled.
pub mod Regrouping
pub mod LevelledLaws
pub mod ExpressionLaws
-- For the laws of lines, and for `spelled_once`, since each tree is a line.
pub mod ShapedLines
pub mod LinePieces
pub mod LineForms
pub mod LineRegrouping
pub mod LineOrder
pub mod LineLaws
-- For worked examples.
pub mod WorkedRows
