pub mod Beside
pub mod Coming
pub mod Moving
pub mod Passing
