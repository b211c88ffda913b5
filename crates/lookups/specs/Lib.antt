pub mod Conjuncts
pub mod Lent
pub mod Lookups
pub mod Reach
pub mod Uniques
