pub mod MemPeers
pub mod Tested
