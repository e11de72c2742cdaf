pub mod TextLaws
pub mod FeedLaws
pub mod TakingLaws
pub mod RowLaws
pub mod ReadingLaws
