pub mod Doors
pub mod FileBytes
pub mod Links
pub mod MemDoors
pub mod MemLinks
pub mod Outside
pub mod Porches
