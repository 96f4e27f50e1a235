pub mod Bounds
pub mod Points
