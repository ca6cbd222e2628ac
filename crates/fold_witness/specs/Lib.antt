pub mod Witness
pub mod Parts
pub mod WitnessLaws
pub mod CallLaws
pub mod LitLaws
pub mod Files
pub mod FileLaws
