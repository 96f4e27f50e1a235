pub mod Alone
pub mod FlagLines
pub mod Ends
pub mod Near
pub mod FlagTexts
