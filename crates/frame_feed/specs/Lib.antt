pub mod Calls
pub mod Feeding
pub mod Laws
pub mod Steps
