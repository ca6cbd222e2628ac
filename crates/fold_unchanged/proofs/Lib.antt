pub mod LoweredLaws
pub mod UnchangedLaws
