pub mod Generated
pub mod Parts
pub mod Worked
pub use Rattle.as_lineform.specs.Item
pub use Rattle.as_lineform.specs.Spelling
pub use Rattle.as_base.specs.Range
pub use Rattle.as_words.specs.Appends
