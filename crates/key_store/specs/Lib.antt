pub mod Laws
pub mod Opening
pub mod Stores
