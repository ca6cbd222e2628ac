pub mod Collapsing
pub mod CollapsingLaws
pub mod TriedLaws
