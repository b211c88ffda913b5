pub mod Chosen
pub mod Once
pub mod Sorting
