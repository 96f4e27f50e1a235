pub mod Starting
pub mod Places
pub mod Timelines
pub mod Made
