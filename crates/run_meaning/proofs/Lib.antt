-- For `one_run`.
pub mod OneRun
