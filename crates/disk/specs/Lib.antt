pub mod Calls
pub mod Crashes
pub mod DiskCalls
pub mod Durable
pub mod Moments
