pub mod Denominators
pub mod Prices
pub mod PriceFaults
pub mod Faults
pub mod Divisors
