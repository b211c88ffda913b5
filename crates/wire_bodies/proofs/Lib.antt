mod Counted
mod PartsRead
