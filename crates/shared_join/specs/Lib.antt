pub mod Wanted
pub mod Found
pub mod Lanes
pub mod Window
pub mod Joins
pub mod Names
pub mod Worked
