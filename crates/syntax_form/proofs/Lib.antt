-- For every reader of tokens.
pub mod TokenLaws
-- For `lines_of_tokens`, and for worked examples of readers.
pub mod LineTokens
-- For `printed_tokens`.
pub mod PrintedTokens
pub mod PrintedLines
