pub mod Joining
pub mod Steps
pub mod Rounds
pub mod Registers
pub mod RoundTrip
