pub mod Stale
pub mod Seen
