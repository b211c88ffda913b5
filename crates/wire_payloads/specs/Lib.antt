pub mod Batches
pub mod Payloads
