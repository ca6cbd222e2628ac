pub mod FoldingLaws
