pub mod Blocks
pub mod BlockLaws
pub mod GateBlockLaws
