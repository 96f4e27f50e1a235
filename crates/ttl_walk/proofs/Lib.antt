mod Rows
mod Lists
mod Queues
mod Standing
mod Asking
pub mod Walking
