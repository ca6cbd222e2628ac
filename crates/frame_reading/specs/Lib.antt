pub mod Reading
pub mod Evaluation
