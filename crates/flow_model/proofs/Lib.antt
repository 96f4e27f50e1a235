mod Rows
pub mod Sums
pub mod Lists
pub mod Exchange
pub mod Equal
pub mod Pushes
pub mod Whole
pub mod Windows
