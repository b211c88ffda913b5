mod Changing
pub mod Interface
mod Spreading
mod Values
