mod Alike
mod Blanks
mod Exchanges
mod Twins
