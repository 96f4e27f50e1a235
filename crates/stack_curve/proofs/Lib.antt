pub mod MarkLemmas
pub mod Different
pub mod Recent
pub mod LruEntries
pub mod LruCurve
pub mod CountLemmas
pub mod CurveLemmas
mod Rows
