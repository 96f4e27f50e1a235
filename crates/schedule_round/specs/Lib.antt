pub mod Ranks
pub mod Taken
pub mod Laws
