pub mod CopyingLaws
