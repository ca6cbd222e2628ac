pub mod Answers
pub mod Files
pub mod FileLaws
pub mod AnswerLaws
pub mod Settled
pub mod SettledLaws
pub mod VerdictLaws
pub mod StandingLaws
