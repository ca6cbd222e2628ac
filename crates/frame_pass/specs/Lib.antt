pub mod Lanes
pub mod Batch
