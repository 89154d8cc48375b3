pub mod Commas
pub mod FieldDepths
pub mod LaterArguments
pub mod Pieces
pub mod Pushing
