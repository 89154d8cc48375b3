-- for `read_body_line`, found: what is read from a text is a line of the form
pub mod LineFound
pub mod SumFound
pub mod SumSteps
pub mod Targets
pub mod Ends
pub mod Options
-- for `read_body_line`, only: each line of the form is read from its text
pub mod LineOnly
pub mod SumOnly
pub mod LineCases
pub mod Forms
pub mod Spellings
pub mod WordBytes
pub mod Cuts
-- for `SliderNames::of`: what the lines of bytes say of sliders
pub mod Scans
pub mod SliderLines
pub mod HasLines
pub mod NameSets
-- for `read_body`, `read_cell`, `read_cells`, and for `thin`, cells and only: the cells that are read are those of the file
pub mod WholeFiles
pub mod WholeCells
pub mod Bodies
pub mod Parts
pub mod Places
pub mod Views
-- for `thin`, refused: the line that is named is the first that doesn't fit
pub mod Beginnings
pub mod Stops
pub mod Leads
pub mod FileElements
pub mod Among
-- for `printing_is_one_to_one`
pub mod OneToOne
pub mod OneLine
-- for `one_failure`
pub mod OneFailure
pub mod SomeFailure
