-- Why the sums of prices can't be had.
use Rattle.std.specs.Prelude.{ℕ, List}
use Rattle.relaxation.specs.declared.prices.PriceFault.{PriceFault}
use Rattle.relaxation.specs.declared.prices.PriceFault.TheVariants.{SumLimit, NoMemory}
use Rattle.relaxation.specs.Prices.{IsFirstPast}

-- the limit is passed first at the step that is named; running out of memory is free
abbrev pub FailsAt : ℕ → List ℕ → PriceFault → Type 0
FailsAt units prices (SumLimit step) = IsFirstPast units prices step
FailsAt units prices NoMemory = Unit {0}
