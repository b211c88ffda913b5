pub mod Chosen
pub mod Counts
mod Ends
pub mod Parsed
