pub mod Lanes
pub mod BoxLaws
pub mod BlockLaws
pub mod IndexLaws
pub mod IndexedLaws
