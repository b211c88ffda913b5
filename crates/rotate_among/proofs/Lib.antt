mod Asked
mod Came
mod Others
mod Passed
mod Served
mod Tapped
