pub mod Insertion
pub mod Pushed
pub mod Numbers
pub mod Appended
pub mod Earning
