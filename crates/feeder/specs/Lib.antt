pub mod Maker
pub mod Going
pub mod Loads
pub use Rattle.as_outside.specs.Sources
pub use Rattle.as_lineform.specs.Lines
pub use Rattle.inbox.specs.Passes
