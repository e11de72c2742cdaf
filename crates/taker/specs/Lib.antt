pub mod Journal
pub mod Woven
pub mod Gather
pub use Rattle.as_lineform.specs.Lines
pub use Rattle.as_lineform.specs.Spelling
pub use Rattle.feeder.specs.Loads
pub use Rattle.service.specs.Processor
pub use Rattle.service.specs.Stop
