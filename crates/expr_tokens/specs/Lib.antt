pub mod Adding
pub mod Capped
pub mod Parts
