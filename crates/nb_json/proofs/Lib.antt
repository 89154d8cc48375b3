-- for `push_frame`: members and lists
pub mod Joined
-- for `push_frame`: strings
pub mod PlainBytes
