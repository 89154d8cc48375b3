-- For `scripts_are_read_one_way`.
pub mod Turns
pub mod ScriptTexts
-- For `worked_answers` and `worked_scripts`.
pub mod SentTexts
pub mod SliderAnswers
-- For `worked_sets`.
pub mod SetAnswers
