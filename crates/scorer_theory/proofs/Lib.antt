pub mod FrameLaws
pub mod GameLaws
pub mod GrammarLaws
pub mod HighestLaws
pub mod RuleLaws
pub mod ScoreLaws
