pub mod Bind
pub mod Changes
pub mod Definitions
pub mod Faults
pub mod Laws
pub mod Queries
pub mod Seen
pub mod Tables
