mod Admission
pub mod Interface
mod Numbering
mod Twins
mod TwinsAlike
