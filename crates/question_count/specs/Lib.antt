pub mod Sum
pub mod Counting
pub mod Claims
pub mod Example
