mod Clashes
mod ColumnEncs
pub mod Interface
mod Merging
mod RenamedTypings
mod Renaming
mod Sorting
mod Trees
mod TypedLaws
mod UsedAlone
mod UsedParams
mod UsedWithin
mod Walks
