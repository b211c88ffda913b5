pub mod Faults
pub mod Shortened
pub mod Views
