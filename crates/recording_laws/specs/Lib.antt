pub mod Laws
pub mod Recorded
pub mod RecordedWorked
