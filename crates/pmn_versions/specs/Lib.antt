pub mod Versions
pub mod OtherRecord
