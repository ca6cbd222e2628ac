pub mod CostLaws
pub mod FoldLaws
pub mod MarginLaws
pub mod PathLaws
pub mod SizeLaws
