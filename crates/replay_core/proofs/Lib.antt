pub mod KnownRuns
pub mod Kept
pub mod Tallies
pub mod Writes
pub mod Leavings
