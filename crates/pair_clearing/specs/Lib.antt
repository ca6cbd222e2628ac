pub mod Clearing
pub mod HalfLaws
pub mod ClearLaws
