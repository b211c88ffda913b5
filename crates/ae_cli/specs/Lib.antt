pub mod Does
pub mod Endings
pub mod Headline
pub mod Seen
