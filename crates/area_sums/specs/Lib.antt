pub mod Short
pub mod Spans
pub mod Bounds
pub mod Groups
pub mod PageLayout
pub mod Pages
pub mod Places
pub mod Kept
