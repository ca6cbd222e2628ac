pub mod UndoneLaws
pub mod PartsLaws
