pub mod Wanting
pub mod SelectorFor
pub mod Worked
