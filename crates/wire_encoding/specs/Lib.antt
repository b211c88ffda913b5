pub mod Packing
pub mod PackingWorked
pub mod Sharing
pub mod Spelling
pub mod SpellingWorked
