mod Corresponding
mod InTurn
