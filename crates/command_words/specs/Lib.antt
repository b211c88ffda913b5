pub mod Found
pub mod Programs
pub mod Statuses
pub mod Words
