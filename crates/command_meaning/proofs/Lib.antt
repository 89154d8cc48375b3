-- For `words_ask_for_one_thing`.
pub mod ServiceWords
