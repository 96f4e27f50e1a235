mod Rows
mod Nothing
pub mod Versions
pub mod Left
pub mod KnownRuns
pub mod Writes
