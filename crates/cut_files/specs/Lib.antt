pub mod Answers
pub mod FileLaws
