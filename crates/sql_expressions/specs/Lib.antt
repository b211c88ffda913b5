pub mod Reads
pub mod Shortened
pub mod Views
