pub mod Columns
pub mod Parts
pub mod Index
pub mod Indexed
