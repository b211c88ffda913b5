mod Cutting
mod Entries
pub mod Interface
mod Seeking
