pub mod Lanes
pub mod LaneLaws
pub mod Reading
