pub mod Schedules
pub mod OneWindow
pub mod Places
pub mod Rounds
pub mod Paid
pub mod LastPrice
pub mod Results
pub mod KeptFlows
