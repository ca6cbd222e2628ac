pub mod Terms
pub mod FeedLaws
pub mod TermLaws
pub mod SumLaws
