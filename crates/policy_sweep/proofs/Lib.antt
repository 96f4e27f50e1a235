pub mod Steady
pub mod Gone
