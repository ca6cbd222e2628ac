pub mod AnswerLaws
pub mod NameLaws
