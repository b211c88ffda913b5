mod Capitals
mod Digits
pub mod Interface
mod Progress
mod Quotes
mod Trees
