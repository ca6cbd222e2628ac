pub mod AlleyLaws
pub mod FileLaws
pub mod FoldLaws
pub mod GameLaws
pub mod NetworkLaws
pub mod RunLaws
