pub mod Sheets
pub mod Tally
pub mod TallyLaws
