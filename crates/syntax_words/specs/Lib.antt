pub mod AtomView
pub mod Beginnings
pub mod FixedView
pub mod SenseView
pub mod TableView
pub mod WordView
