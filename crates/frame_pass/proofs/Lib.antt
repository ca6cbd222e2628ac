pub mod LaneLaws
pub mod SignalLaneLaws
pub mod RecordLaws
