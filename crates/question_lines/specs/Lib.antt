pub mod Lines
pub mod LineLaws
pub mod StretchLaws
pub mod ComparableLaws
pub mod NumberLaws
