pub mod LineRows
