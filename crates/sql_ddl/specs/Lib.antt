pub mod Shortened
pub mod Views
