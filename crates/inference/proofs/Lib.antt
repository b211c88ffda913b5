mod Alike
mod Traces
mod Ways
mod Passes
mod Inferring
mod Exactness
