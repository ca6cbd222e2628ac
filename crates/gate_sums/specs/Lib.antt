pub mod Tables
pub mod SumLaws
