pub mod Lines
pub mod Used
