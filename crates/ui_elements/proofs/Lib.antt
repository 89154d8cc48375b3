-- for `make`: parameters of calls
pub mod Fills
pub mod Names
-- for `make` and `admit`: parameters by name, and ranges
pub mod Keys
pub mod Gaps
-- for the law `sliders`
pub mod SliderLaws
