mod Rows
pub mod Valid
