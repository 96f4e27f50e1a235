pub mod Heaps
pub mod QueueSteps
pub mod EdgeLists
pub mod RankSteps
pub mod Paths
pub mod Trees
pub mod Routes
