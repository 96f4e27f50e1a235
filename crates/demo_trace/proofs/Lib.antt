pub mod LineParts
pub mod ReadBack
pub mod Growing
mod Rows
