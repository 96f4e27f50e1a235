pub mod Blocks
pub mod Parts
pub mod Refinements
pub mod Rounds
