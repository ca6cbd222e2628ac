pub mod Question
pub mod Text
pub mod Meaning
pub mod Demand
