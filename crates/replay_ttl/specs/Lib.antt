pub mod Runs
pub mod Played
