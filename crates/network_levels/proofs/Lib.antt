pub mod SetLaws
pub mod LevelLaws
