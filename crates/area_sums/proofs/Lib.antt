pub mod ShortLemmas
pub mod LogLemmas
pub mod TestLemmas
pub mod RowLemmas
pub mod PageLemmas
pub mod PlaceLemmas
pub mod LeastLemmas
pub mod PlaceSums
pub mod ClassSums
pub mod AddLemmas
pub mod KeptLemmas
pub mod SpanLemmas
pub mod PassLemmas
pub mod BoundsLemmas
mod Rows
