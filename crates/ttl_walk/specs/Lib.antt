pub mod Queue
pub mod Kept
pub mod Requests
