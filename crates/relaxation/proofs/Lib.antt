pub mod Divisors
pub mod Whole
pub mod RunningSums
pub mod Bounds
pub mod Loads
pub mod Values
pub mod WholeArcs
