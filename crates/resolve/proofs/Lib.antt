pub mod BoundStatements
pub mod Causes
pub mod Interface
pub mod Joins
pub mod KeyValues
mod Kept
pub mod KeptWhole
pub mod OnCatalog
pub mod PlacedStatements
pub mod QueryParts
