pub mod Declarations
pub mod Faults
pub mod Names
pub mod Scopes
pub mod Seen
pub mod Walks
