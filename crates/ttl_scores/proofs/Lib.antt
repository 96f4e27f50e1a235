mod Rows
mod Long
pub mod Known
