mod Objects
mod Places
mod Ranges
mod Walking
pub mod Next
mod Sums
mod Rows
