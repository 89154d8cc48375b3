-- for `Names::place`
pub mod Places
