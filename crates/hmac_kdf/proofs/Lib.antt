mod Blocks
mod Codes
pub mod Interface
mod Labels
