mod Paid
mod Found
mod Rows
