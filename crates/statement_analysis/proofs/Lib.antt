mod Encryptions
pub mod Interface
mod Listing
mod Passing
mod Told
mod Typings
mod Used
