pub mod Possible
pub mod Causes
pub mod Claims
