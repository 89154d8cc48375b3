-- What a visitor is answered: why what is kept is what is computed afresh, in the order in which the lemmas stand on one another.

-- A cell by itself: what its run depends on, and what it changes.
pub mod LookUps
pub mod Kept
pub mod Makes
pub mod Coincidence
pub mod Outcomes
-- The whole notebook, cell by cell: each outcome is the one from the whole's own bindings.
pub mod InOrder
pub mod FixedPoint
pub mod ResultsOf
-- Cells that run one after the other towards a whole.
pub mod OneByOne
pub mod Going
-- Values that are set, and the elements that are in being.
pub mod SetValues
pub mod SentValues
pub mod InBeing
pub mod AtKept
-- For `rerun_suffices`: where only the cells that run again run.
pub mod RerunSuffices
pub mod Standing
pub mod AfterCells
-- For those who serve visits.
pub mod Endings
-- For `nothing_behind_a_close`.
pub mod Closing
-- For `elements_in_being`.
pub mod PresentValues
