pub mod Counts
pub mod Faults
pub mod Online
pub mod Points
pub mod Swept
