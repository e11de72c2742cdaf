pub mod Prefix
pub mod Appends
pub mod Number
pub mod Parts
pub mod Words
