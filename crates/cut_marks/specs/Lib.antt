pub mod Marks
pub mod WordLaws
