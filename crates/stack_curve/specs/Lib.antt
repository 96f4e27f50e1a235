pub mod Counts
pub mod Curves
pub mod Distances
pub mod Laws
pub mod Marks
