pub mod Integers
pub mod Inverse
pub mod Norms
pub mod Units
mod Vectors
