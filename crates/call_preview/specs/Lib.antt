pub mod Answers
pub mod PreviewLaws
