pub mod Verdicts
pub mod Joint
pub mod Tables
pub mod Spans
pub mod SideBySide
pub mod Wiring
pub mod Reasons
pub mod Decisions
