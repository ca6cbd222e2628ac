pub mod Reads
pub mod Answers
pub mod Runs
pub mod Margins
pub mod Converter
pub mod Cuts
