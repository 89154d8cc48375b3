pub mod Computing
mod Ordered
mod Repeating
pub mod Shapes
