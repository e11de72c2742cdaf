pub mod EntryLaws
pub mod LogLaws
pub mod FailureLaws
pub mod OutputLaws
pub mod MakesLaws
pub mod SourceLaws
