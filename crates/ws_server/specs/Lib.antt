pub mod Reports
pub mod Shares
pub mod Told
pub mod Visitors
