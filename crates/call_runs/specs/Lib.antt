pub mod Runs
pub mod Files
pub mod Running
