pub mod Codes
pub mod Comparing
pub mod Forms
pub mod Opening
pub mod Parts
pub mod ReadBack
