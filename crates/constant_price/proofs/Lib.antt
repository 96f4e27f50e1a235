pub mod Bracketed
pub mod Convex
pub mod Falls
pub mod Bounds
pub mod Prices
mod Rows
