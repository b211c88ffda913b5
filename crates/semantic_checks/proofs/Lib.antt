mod ClashTrees
pub mod Interface
mod RenamedChecks
mod Smallest
mod UsedTrees
