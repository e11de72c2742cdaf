pub mod OutputFaults
pub mod Outlets
