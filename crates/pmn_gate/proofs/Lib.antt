pub mod Tables
pub mod FeedsLoop
pub mod Kept
