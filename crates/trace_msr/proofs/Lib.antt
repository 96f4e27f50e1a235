pub mod LineRows
pub mod Quotes
