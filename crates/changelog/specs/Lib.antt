pub mod Changes
pub mod Ends
pub mod Worked
pub mod Spans
pub mod EpochsFor
pub mod BySlot
pub mod Orderly
pub mod WorkedOrder
