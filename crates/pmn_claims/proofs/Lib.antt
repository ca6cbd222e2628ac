pub mod AnswerLaws
pub mod ConverterLaws
pub mod CutLaws
pub mod MarginLaws
pub mod ReadLaws
pub mod RunLaws
