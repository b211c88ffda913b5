pub mod Hmac
pub mod Holding
pub mod Keys
