mod Compacting
mod Equalities
mod Leading
mod Mounting
mod Putting
mod Same
