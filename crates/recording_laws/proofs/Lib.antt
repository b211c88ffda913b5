mod Asked
mod Catalogs
mod Forgetting
mod Held
pub mod Interface
mod Made
mod Members
mod Replays
mod Slots
mod Steps
