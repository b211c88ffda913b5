mod ByClass
pub mod Interface
mod Numbering
mod Streaming
