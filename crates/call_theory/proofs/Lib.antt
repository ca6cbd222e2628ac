pub mod GuaranteeLaws
pub mod NumberLaws
pub mod RunLaws
pub mod TraceLaws
pub mod UndoLaws
