pub mod Ages
pub mod Laws
