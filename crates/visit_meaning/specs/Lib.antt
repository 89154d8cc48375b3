pub mod Answer
pub mod Rerun
pub mod Runnable
pub mod Underway
pub mod Whole
pub mod WithElement
