pub mod Program
pub mod Samples
pub mod Scripts
pub mod SetSamples
