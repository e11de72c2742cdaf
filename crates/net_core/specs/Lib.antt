pub mod Sent
pub mod Due
pub mod Part
pub mod Machine
pub mod Bounds
pub mod Merged
pub mod Worked
