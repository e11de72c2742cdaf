pub mod Sets
pub mod Blocks
pub mod TouchedFor
pub mod Worked
