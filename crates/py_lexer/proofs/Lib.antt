-- For `word`, `numbers` and the digits of escapes: loops over bytes.
pub mod SpanLoop
pub mod NumberLoop
pub mod HexNumbers
-- For `format`.
pub mod FormatSays
-- For `plain`: the code's ends are those of the readers.
pub mod EndLaws
pub mod ItemEnds
pub mod PlainEnds
-- For `plain_token`: a text may be cut behind a token.
pub mod LastBytes
pub mod PlainCuts
-- For `readable`.
pub mod CleanLaws
pub mod EvenFronts
-- For `lines_by`.
pub mod Scanning
pub mod AnswerLaws
