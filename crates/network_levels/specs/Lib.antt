pub mod Levels
pub mod Arrays
