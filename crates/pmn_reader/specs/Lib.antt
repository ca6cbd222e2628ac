pub mod Answers
pub mod ReadAnswers
pub mod OpenLaws
