pub mod Cells
pub mod Held
pub mod Grids
pub mod Steps
pub mod Totals
pub mod Tables
pub mod Worked
