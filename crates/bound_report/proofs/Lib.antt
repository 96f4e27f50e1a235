mod Rows
pub mod CurveLemmas
pub mod AppendedLines
mod NumberRows
