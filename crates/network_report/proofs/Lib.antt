pub mod ReportLaws
pub mod CostLaws
