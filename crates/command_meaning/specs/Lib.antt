pub mod Commands
pub mod Services
