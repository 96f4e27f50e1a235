pub mod Instances
pub mod Windows
pub mod Networks
pub mod Pushes
pub mod Laws
pub mod Solutions
