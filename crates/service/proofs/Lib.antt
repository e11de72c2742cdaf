pub mod BrokenLaws
pub mod GoesLaws
pub mod ServedLaws
pub mod CueLaws
pub mod ProcessedLaws
