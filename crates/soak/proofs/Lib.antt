pub mod TallyLaws
pub mod LineLaws
