pub mod Catalogs
pub mod Definitions
pub mod Laws
pub mod WellFormed
