pub mod ClaimLaws
pub mod ExampleLaws
pub mod FileLaws
