-- For `serve_one`: what the end of a session says.
pub mod Endings
-- For `serve_door`: visitors one after the other.
pub mod Shares
-- For `serve_doors`: the sum of the reports.
pub mod Sums
-- For the laws: the visitors of all doors, and what a report tells of them.
pub mod Totals
pub mod Tellings
pub mod Reported
-- For `serve_all`: threads may share a notebook.
pub mod Sharing
