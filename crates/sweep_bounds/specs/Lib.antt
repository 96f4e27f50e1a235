pub mod Spans
pub mod Bounds
pub mod Sweep
