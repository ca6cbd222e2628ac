pub mod Fewest
pub mod Pass
