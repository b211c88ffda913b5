pub mod Reading
pub mod ReadingWorked
