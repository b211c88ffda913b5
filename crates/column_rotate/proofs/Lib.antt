mod Named
mod Rotated
mod Rows
mod Spelled
