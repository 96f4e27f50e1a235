pub mod Longer
pub mod Parts
pub mod Telling
pub mod Settings
