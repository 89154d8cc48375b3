pub mod Meaning
pub mod Runs
pub mod Spending
pub mod Trace
