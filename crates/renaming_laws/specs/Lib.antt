pub mod Executions
pub mod Laws
pub mod Renaming
