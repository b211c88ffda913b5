mod Finding
pub mod Interface
mod Sorted
