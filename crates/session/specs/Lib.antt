pub mod Endings
pub mod Progress
pub mod Serving
pub mod Talks
