pub mod Conditions
pub mod Exchanges
pub mod KeyLists
pub mod Messages
