pub mod Volumes
pub mod Readings
pub mod LineContent
pub mod Readers
pub mod NextPieces
pub mod FirstLines
pub mod Loads
pub mod Counts
