mod Agreement
mod Chosen
mod Conditions
mod Counting
mod Definitions
mod Depths
mod Going
pub mod Interface
mod Operands
mod Pieces
mod Sets
mod Statements
mod Whole
mod Words
