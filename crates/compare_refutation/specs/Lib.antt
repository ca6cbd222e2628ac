pub mod Endings
pub mod Steps
