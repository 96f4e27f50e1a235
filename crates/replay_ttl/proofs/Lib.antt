mod Rows
pub mod Counted
pub mod Gone
pub mod KnownRuns
pub mod PlayedTo
