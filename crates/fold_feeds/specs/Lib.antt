pub mod Feeds
pub mod Parts
pub mod CallLaws
pub mod Files
pub mod FileLaws
