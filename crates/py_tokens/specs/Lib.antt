pub mod NameView
pub mod TokenView
