pub mod Flagged
pub mod Possible
pub mod Claimed
mod Rows
