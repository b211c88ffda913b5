pub mod Adds
pub mod Results
