pub mod Claims
pub mod Files
pub mod Example
