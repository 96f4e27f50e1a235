pub mod Writes
pub mod Grown
pub mod Seen
pub mod Bridge
pub mod Told
mod Rows
