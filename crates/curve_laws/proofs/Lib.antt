pub mod Steady
mod Rows
