pub mod Moves
pub mod Filters
pub mod Ranges
pub mod Adding
mod Marks
pub mod Joining
pub mod Cutting
pub mod Summing
mod Rows
