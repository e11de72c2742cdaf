mod Worked
pub mod TextLaws
pub mod PlaceLaws
pub mod GrammarLaws
pub mod FaultLaws
mod ReadingLaws
