pub mod Constants
pub mod Surpluses
