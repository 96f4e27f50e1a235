mod Appended
mod RecordShapes
mod BudgetShapes
mod Fits
mod RecordSpellings
mod BudgetSpellings
mod Headers
mod Wholes
mod RecordLines
mod Rows
mod Wide
mod WideChains
mod BudgetLines
mod Tails
mod HeaderParts
pub mod Going
