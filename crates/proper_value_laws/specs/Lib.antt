pub mod Laws
pub mod Proper
