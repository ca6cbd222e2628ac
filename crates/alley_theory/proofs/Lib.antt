pub mod AnswerLaws
pub mod ClaimLaws
pub mod EntryLaws
pub mod FoundLaws
pub mod LaneLaws
pub mod ReadBackLaws
pub mod StepLaws
pub mod TextLaws
