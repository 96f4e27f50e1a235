pub mod Timelines
pub mod Stored
