pub mod Tally
pub mod Soaked
pub use Rattle.as_base.specs.declared.config.Config
pub use Rattle.as_base.specs.declared.item.Item
pub use Rattle.session.specs.Outcome
pub use Rattle.session.specs.Shut
pub use Rattle.generate.specs.Generated
