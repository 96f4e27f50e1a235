mod Rows
pub mod Debts
pub mod Owing
pub mod Within
pub mod Budgets
