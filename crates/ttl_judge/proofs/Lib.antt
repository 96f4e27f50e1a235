mod Rows
mod Writing
mod Fresh
mod Claims
mod Clocks
