pub mod AtomBounds
pub mod Atoms
pub mod Sources
pub mod Texts
