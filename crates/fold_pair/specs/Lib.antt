pub mod Answers
pub mod Files
pub mod Parts
pub mod PairLaws
pub mod FileLaws
