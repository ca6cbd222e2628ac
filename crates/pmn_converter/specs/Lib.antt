pub mod Conversion
pub mod Claims
pub mod ConversionLaws
pub mod FileLaws
pub mod ClaimLaws
