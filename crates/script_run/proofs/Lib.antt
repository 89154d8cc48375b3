-- For `read_script`.
pub mod ScriptLines
-- For `play`: the frames of one answer, and of messages one after the other.
pub mod GivenFrames
pub mod MessagesInTurn
pub mod PlayedMessages
