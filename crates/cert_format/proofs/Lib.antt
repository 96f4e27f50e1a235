pub mod GrammarRows
pub mod Words
pub mod Shapes
pub mod RecordShapes
pub mod Numbers
pub mod Decimals
pub mod Spellings
pub mod RecordSpellings
pub mod Prefixes
pub mod Headers
pub mod Wholes
pub mod Short
pub mod Taken
pub mod Chains
pub mod HeaderParts
pub mod Going
pub mod Written
mod Appended
