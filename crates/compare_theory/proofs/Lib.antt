pub mod DecisionLaws
pub mod ForceLaws
pub mod MaskLaws
pub mod ReasonLaws
pub mod RowLaws
pub mod SideBySideLaws
pub mod SpanLaws
pub mod WiringLaws
