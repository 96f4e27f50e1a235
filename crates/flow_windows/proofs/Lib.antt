pub mod PartCosts
pub mod PartArcs
pub mod Gathering
pub mod Listing
pub mod Merging
pub mod Starting
pub mod Numbering
pub mod Passing
