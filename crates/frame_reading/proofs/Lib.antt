pub mod SumLaws
pub mod SignalLaws
pub mod OutputLaws
pub mod FeedLaws
