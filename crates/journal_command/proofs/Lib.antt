mod Adding
mod Appending
mod Exactly
mod Holding
pub mod Interface
mod Pieces
mod Recording
mod Rereading
mod Restarting
mod Servable
mod Serving
mod Turning
mod WholeRuns
