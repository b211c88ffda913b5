mod Alike
mod Behind
mod Chosen
mod Ends
pub mod Interface
mod Joined
mod Listing
mod Tested
mod There
