pub mod NextKept
pub mod OneMore
