pub mod MakingLaws
pub mod GoingLaws
pub mod EndLaws
