pub mod Command
pub mod Service
