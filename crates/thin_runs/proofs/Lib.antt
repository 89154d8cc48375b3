-- For `thin_is_runnable`.

-- What cells of the form read, bind and create.
pub mod ThinCode
pub mod ThinCells
pub mod ThinMakes
pub mod ThinBindings
-- The record.
pub mod ThinRuns
