pub mod Placed
pub mod Slices
pub mod Worked
