pub mod Queues
pub mod OuterEdges
pub mod Ranks
pub mod Searches
