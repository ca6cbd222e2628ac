pub mod Answers
pub mod Writing
pub mod WritingLaws
pub mod WriteAnswerLaws
