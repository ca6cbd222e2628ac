pub mod Sums
pub mod Tables
pub mod SumLaws
pub mod HeldLaws
