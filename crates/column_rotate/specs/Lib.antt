pub mod Headers
pub mod Laws
pub mod Left
pub mod Moves
pub mod Rotating
pub mod Texts
