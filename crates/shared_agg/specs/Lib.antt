pub mod Shares
pub mod Duties
pub mod Fill
pub mod Slices
pub mod Aggs
pub mod Worked
