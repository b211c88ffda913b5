mod Causes
mod Claimed
mod Doing
