-- For `load` and `one_refusal`.
pub mod FormFault
pub mod OneRefusal
-- For `carry_out`.
pub mod Execution
-- For `run_words`: what was written at each status, and what it tells.
pub mod Output
-- For `serve`, and what its status tells.
pub mod Service
-- For `run_top`.
pub mod Statuses
