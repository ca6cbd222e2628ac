pub mod Twins
pub mod TwinLaws
pub mod Merging
pub mod MergeLaws
