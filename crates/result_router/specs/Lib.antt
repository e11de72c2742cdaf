pub mod Rising
pub mod Rows
pub mod Merge
pub mod Sound
pub mod Held
pub mod Lent
pub mod Worked
