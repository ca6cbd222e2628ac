pub mod AnswerLaws
pub mod CallLaws
pub mod JournalLaws
pub mod PartsLaws
pub mod ShiftLaws
