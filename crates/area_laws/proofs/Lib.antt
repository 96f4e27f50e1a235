pub mod Since
pub mod Held
pub mod Hits
pub mod Policies
pub mod Delays
pub mod Groups
pub mod Edges
mod Rows
