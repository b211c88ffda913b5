pub mod Checking
pub mod Compacting
pub mod Compactions
pub mod Endings
pub mod Finding
pub mod Laws
pub mod Writing
