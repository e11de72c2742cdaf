pub mod ListLaws
pub mod OrderLaws
pub mod LookLaws
pub mod RangeLaws
