pub mod Blocks
pub mod Chaining
pub mod Unchaining
pub mod Padding
pub mod Decrypting
pub mod RoundTrip
