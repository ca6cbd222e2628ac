pub mod Gaps
pub mod GapLaws
