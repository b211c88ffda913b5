pub mod Interface
mod Lengths
mod Listing
mod Mending
mod Packed
mod Sharing
