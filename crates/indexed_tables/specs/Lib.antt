pub mod Tables
pub mod Updates
