pub mod Files
pub mod FileLaws
pub mod PartLaws
