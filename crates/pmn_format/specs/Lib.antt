pub mod Format
pub mod Lengths
pub mod Part
pub mod Answered
