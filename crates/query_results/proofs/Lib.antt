mod Answering
mod Finding
mod Grouped
pub mod Interface
mod Nulls
mod Resulting
