pub mod FeedLaws
pub mod JournalLaws
pub mod WovenLaws
pub mod GatherLaws
