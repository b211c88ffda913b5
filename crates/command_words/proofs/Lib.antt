mod Faultless
mod Filled
mod Taken
pub mod Matched
mod Program
