pub mod Holding
pub mod Levels
pub mod Lookups
pub mod Numbers
