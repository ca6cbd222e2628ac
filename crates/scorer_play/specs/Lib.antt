pub mod Sheets
pub mod Play
pub mod BallLaws
pub mod PlayLaws
pub mod WordLaws
