pub mod Asking
pub mod Streams
