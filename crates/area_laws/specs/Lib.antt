pub mod Late
pub mod Areas
pub mod Laws
