-- For every law: small lemmas, and readers that give what may stand at a text's front.
pub mod Basics
pub mod Runs
pub mod Spans
pub mod Among
-- For each kind of token: what is read is what is spelled.
pub mod MarkLaws
pub mod Items
pub mod TextLaws
pub mod PlainLaws
pub mod PlainLongest
pub mod FormatLaws
pub mod FieldLaws
pub mod FTextLaws
-- For `longest_token`.
pub mod NextLaws
-- For `one_answer`.
pub mod ScanLaws
pub mod CutLaws
-- For `one_answer`, `worked_tokens` and `worked_files`.
pub mod WorkedRows
