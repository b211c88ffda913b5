mod Dropping
mod Finding
mod Hitting
mod Placed
