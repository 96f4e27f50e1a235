pub mod Budgets
pub mod Texts
pub mod Grammar
pub mod Readings
pub mod Parts
pub mod Readers
pub mod Laws
