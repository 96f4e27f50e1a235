pub mod Claim
pub mod Certificates
pub mod Laws
