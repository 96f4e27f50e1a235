pub mod Searches
pub mod Onward
pub mod Rounds
pub mod Starts
