mod Causes
pub mod Interface
mod Kept
mod Parts
mod Places
mod Trees
mod Walks
