-- For `worked_failures`.
pub mod Failures
