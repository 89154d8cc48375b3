pub mod Beginnings
pub mod TokenWords
