pub mod Edges
pub mod Codes
pub mod CodeLaws
pub mod EdgeLaws
