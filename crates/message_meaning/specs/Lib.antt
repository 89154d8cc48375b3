pub mod Computed
pub mod Messages
pub mod Order
pub mod Repeats
pub mod Samples
pub mod Sent
