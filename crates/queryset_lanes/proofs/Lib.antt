pub mod Words
pub mod Counts
pub mod First
pub mod Blocks
