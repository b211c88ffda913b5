mod Equal
mod Given
mod Holding
pub mod Interface
mod Looking
mod Reaching
mod Trees
