pub mod TurnLaws
pub mod CallLaws
