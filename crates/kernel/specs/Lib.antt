pub mod Calls
pub mod CellRun
pub mod KernelState
pub mod Pending
pub mod Sets
pub mod Visit
