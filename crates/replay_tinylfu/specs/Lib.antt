pub mod Marks
pub mod Queues
pub mod Loads
pub mod Counts
pub mod TinyKept
