pub mod Hits
pub mod FreshHits
