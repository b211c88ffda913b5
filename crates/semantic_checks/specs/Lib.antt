pub mod Checks
pub mod Clashes
pub mod Grouping
pub mod Laws
pub mod Types
