pub mod Folds
pub mod Margins
pub mod Sizes
