pub mod Distances
pub mod Guides
pub mod Routes
pub mod LastRound
pub mod Stacks
pub mod OnwardPaths
