pub mod TakenBack
pub mod BackLaws
pub mod NewestLaws
