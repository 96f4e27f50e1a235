pub mod Found
pub mod FlaggedLoads
pub mod FirstCause
pub mod ClaimedSums
pub mod NextFlagged
mod Rows
