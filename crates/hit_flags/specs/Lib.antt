pub mod Flags
pub mod Lines
pub mod Claims
pub mod Nearness
pub mod Laws
