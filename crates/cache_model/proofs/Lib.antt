mod Rows
mod TextRows
pub mod RecordLines
pub mod Duality
pub mod Sums
pub mod Pairs
pub mod Steps
pub mod Eligible
pub mod Keeps
pub mod Streams
pub mod Members
pub mod Ranges
pub mod Flows
pub mod Rounding
pub mod Apart
pub mod Latest
pub mod Loads
pub mod Headline
pub mod Units
pub mod DifferentObjects
pub mod Unpriced
pub mod Scores
pub mod Written
