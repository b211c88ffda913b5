mod Past
mod Rowwise
mod Shown
