pub mod Sound
pub mod Roles
pub mod Passes
pub use Rattle.as_base.specs.Range
