pub mod FileLaws
pub mod RunLaws
