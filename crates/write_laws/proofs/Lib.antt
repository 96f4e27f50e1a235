pub mod Kept
pub mod Written
mod Rows
