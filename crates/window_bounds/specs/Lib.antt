pub mod Solutions
pub mod Laws
