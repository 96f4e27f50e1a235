pub mod Passing
pub mod Events
pub mod Places
pub mod Ranks
pub mod Current
