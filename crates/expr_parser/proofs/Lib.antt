pub mod Depths
pub mod Turns
pub mod Views
pub mod Walks
pub mod Words
