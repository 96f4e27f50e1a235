pub mod SetLemmas
pub mod SumLemmas
pub mod LeafLemmas
