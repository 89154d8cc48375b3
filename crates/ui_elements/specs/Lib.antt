pub mod Calls
pub mod MemoryOrNone
pub mod NumberOrTruth
pub mod Ranges
pub mod Samples
