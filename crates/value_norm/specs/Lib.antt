pub mod Laws
pub mod Norm
pub mod Reading
