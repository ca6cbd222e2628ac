pub mod Files
pub mod Places
pub mod Opening
pub mod AnswerLaws
pub mod OpeningLaws
