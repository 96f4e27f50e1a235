pub mod Weights
pub mod Fitting
pub mod FittingEntries
pub mod LruBytes
pub mod LeafLemmas
pub mod SizeLemmas
pub mod LatestBytes
pub mod FoundLemmas
pub mod PassLemmas
mod Rows
