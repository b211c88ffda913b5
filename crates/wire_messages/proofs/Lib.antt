mod CopiedNames
mod Gathering
pub mod Interface
mod KeyOrder
