pub mod Counting
pub mod Printing
