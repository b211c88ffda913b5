pub mod Endings
pub mod Laws
pub mod Streaming
pub mod Viewing
pub mod Words
