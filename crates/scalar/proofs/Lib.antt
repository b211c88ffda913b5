mod Correspondence
pub mod Interface
mod Junctions
mod Renaming
mod Terms
