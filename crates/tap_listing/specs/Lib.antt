pub mod ClassLaws
pub mod Classes
pub mod Frames
pub mod Tables
