pub mod Literal
pub mod Files
pub mod Alleys
pub mod Games
pub mod Networks
pub mod Folds
pub mod Runs
