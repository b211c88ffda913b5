pub mod Interface
mod KeyContents
mod KeyPaths
mod Progress
mod Reading
mod Told
mod Whole
