mod WordLaws
pub mod PullLaws
pub mod CauseLaws
pub mod GenerationLaws
pub mod CommandLaws
pub mod WorldLaws
