pub mod Decoding
pub mod Frames
pub mod Laws
