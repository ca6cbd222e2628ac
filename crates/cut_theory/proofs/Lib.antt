pub mod BelongLaws
pub mod CopyLaws
pub mod CutLaws
pub mod NeedLaws
pub mod OrderLaws
pub mod PickLaws
pub mod RemoveLaws
