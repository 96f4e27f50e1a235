pub mod Running
pub mod Replays
