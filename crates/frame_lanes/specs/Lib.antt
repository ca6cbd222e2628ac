pub mod Lanes
pub mod MaskLaws
pub mod LaneLaws
