mod Among
mod Beginning
mod Changing
mod Exchanging
mod Keeping
mod Lent
mod Placing
