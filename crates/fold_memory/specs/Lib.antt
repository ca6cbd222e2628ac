pub mod Keeping
pub mod KeepingLaws
