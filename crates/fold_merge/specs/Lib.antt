pub mod Answers
pub mod AnswerLaws
pub mod Codes
pub mod AlignedLaws
pub mod CallLaws
