-- For the words of a service.
pub mod OptionWords
