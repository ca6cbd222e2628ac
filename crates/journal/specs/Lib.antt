pub mod Journals
pub mod Records
pub mod Answers
pub mod Parts
pub mod StepPlaces
