-- for each function that goes through a value: the levels of data
pub mod Levels
-- for the models of values, `eq_value` and `Pairs::look_up`: equality
pub mod Equals
-- for `key_fault` and `Pairs::put`: values that may be keys
pub mod KeyFaults
-- for `Pairs::look_up` and `Pairs::put`: places of keys
pub mod Places
-- for `size` and `operand_charge`
pub mod SizeLevels
-- for `write_repr`, `write_str` and `write_element`: texts of levels
pub mod TextLevels
-- for the literals of texts, and for `push_frame` of nb_json: runs of bytes
pub mod EscapeRuns
pub mod LiteralBytes
-- for `NameMap`
pub mod ByName
-- for what is proved of maps by the crates above
pub mod SortedMaps
-- for worked values, here and above
pub mod Computes
