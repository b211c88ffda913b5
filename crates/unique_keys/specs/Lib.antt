pub mod Admitting
pub mod Indexes
pub mod Keys
