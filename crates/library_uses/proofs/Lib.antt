mod CheckLemmas
mod ReadLemmas
