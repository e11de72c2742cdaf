pub mod Order
pub mod Lends
pub mod Worked
