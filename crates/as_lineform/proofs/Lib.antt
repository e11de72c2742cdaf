pub mod ItemLaws
pub mod SpellingLaws
pub mod LineLaws
pub mod CutterLaws
mod ReadingLaws
mod RecordLaws
mod DigitLaws
mod FrontLaws
