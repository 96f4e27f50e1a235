pub mod Fresh
pub mod FreshRuns
pub mod Latest
pub mod Laws
