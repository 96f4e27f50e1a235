pub mod Smaller
pub mod Fetching
pub mod Greatest
mod Rows
