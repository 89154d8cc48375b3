-- Names, bindings and clauses, whatever the kernel does with them.
pub mod PlainNames
pub mod WithoutNames
pub mod DroppedNames
pub mod PutBack
pub mod Results
pub mod Bounds
-- For `run_cell`: a cell's run and what it leaves.
pub mod CellRun
pub mod CellStep
-- For `Kernel::deliver`: what a message changes, and that it is as its answer says.
pub mod TakenMessage
pub mod Sets
pub mod SetValues
-- For `Kernel::step`: the next frame, and what is kept after it.
pub mod NextFrame
pub mod Newest
-- For each call: what stands by what is kept.
pub mod KeptState
-- For `every_visit`, and for those who make calls one after the other.
pub mod SoloVisits
pub mod CallsInTurn
