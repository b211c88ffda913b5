pub mod Correspond
pub mod Laws
