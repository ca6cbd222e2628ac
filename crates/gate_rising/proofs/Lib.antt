pub mod TableLaws
pub mod Merging
pub mod Weaving
pub mod Choice
