-- For `plain_at`.
pub mod PlainReads
-- For `owned`: the number that is kept.
pub mod NumberLaws
-- For `items`: a field's tokens, one after the other.
pub mod FieldStepLaws
pub mod FieldScan
-- For `field`.
pub mod FieldEndLaws
-- For `said`: escapes, and where texts may be cut.
pub mod EscapeLaws
pub mod Boundaries
-- For `pieces`: parts and items of an f-text.
pub mod PartLaws
pub mod ItemLaws
-- For `f_text` and `token`.
pub mod FTextCutLaws
pub mod TokenLaws
-- For `literal_text`.
pub mod TextParts
pub mod TextWhole
