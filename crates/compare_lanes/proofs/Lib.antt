pub mod RowLaws
pub mod RunLaws
pub mod ReadLaws
