pub mod BoundView
pub mod Forms
pub mod ListView
pub mod Nests
pub mod Reads
pub mod TextView
pub mod Unfolded
