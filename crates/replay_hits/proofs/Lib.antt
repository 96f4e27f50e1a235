pub mod Flagged
pub mod FreshFlags
