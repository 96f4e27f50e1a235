pub mod Tables
pub mod Ends
pub mod Holding
pub mod Owing
mod Rows
