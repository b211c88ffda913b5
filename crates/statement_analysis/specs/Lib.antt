pub mod Describing
pub mod Explaining
pub mod Params
pub mod Sorts
pub mod Understood
