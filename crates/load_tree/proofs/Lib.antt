pub mod Joining
pub mod Adding
pub mod Halves
pub mod Fresh
pub mod Levelled
pub mod Answering
pub mod Rising
pub mod Listed
