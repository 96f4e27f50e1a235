pub mod Entries
pub mod Worths
pub mod Walked
