pub mod Asked
pub mod Faults
pub mod Prices
pub mod Schedules
pub mod Records
pub mod Made
