pub mod AlignmentLaws
