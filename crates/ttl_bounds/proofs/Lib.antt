pub mod Scaling
pub mod Scheduled
pub mod RecordsOf
pub mod MadeOf
mod Rows
