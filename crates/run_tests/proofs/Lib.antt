mod Asking
mod Keeping
