pub mod Writes
pub mod TextPartLaws
