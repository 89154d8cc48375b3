pub mod Fails
pub mod Thin
