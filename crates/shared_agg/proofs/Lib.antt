pub mod FillLaws
pub mod OrderLaws
pub mod SliceLaws
pub mod StepLaws
pub mod WindowLaws
pub mod DutyLaws
pub mod AggLaws
