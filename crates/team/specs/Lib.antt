pub mod Seat
pub mod Team
