pub mod Meets
pub mod Shows
