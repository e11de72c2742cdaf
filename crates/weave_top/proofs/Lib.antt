pub mod InterleaveLaws
pub mod EndingLaws
pub mod CauseLaws
pub mod WholeLaws
