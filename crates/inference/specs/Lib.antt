pub mod Found
pub mod Steps
pub mod Ways
pub mod Reached
pub mod Infers
pub mod Laws
