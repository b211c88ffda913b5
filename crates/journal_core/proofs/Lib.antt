mod Appending
mod Crash
mod Finding
mod Following
mod Frames
mod Gates
mod Heads
pub mod Interface
mod Mending
mod Parts
mod Readings
mod Scans
mod Totality
