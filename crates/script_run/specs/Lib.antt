pub mod Cut
pub mod Prefix
pub mod Script
