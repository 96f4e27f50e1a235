pub mod Ranking
pub mod Lists
pub mod Taking
pub mod Fitting
pub mod Flags
pub mod EqualSizes
