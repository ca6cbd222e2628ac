pub mod Preview
pub mod Sizes
pub mod Files
pub mod PreviewLaws
pub mod FileLaws
