pub mod Nodes
pub mod Slotted
