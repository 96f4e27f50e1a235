mod Rows
pub mod Starts
pub mod Objects
pub mod Numbered
pub mod Within
pub mod Idle
mod Shorter
mod Longer
mod Misses
