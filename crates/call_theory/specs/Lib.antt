pub mod Steps
pub mod Calls
pub mod Trail
pub mod Guarantee
pub mod Preserved
