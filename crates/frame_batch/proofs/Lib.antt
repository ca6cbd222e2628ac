pub mod RoomLaws
pub mod AnswerLaws
