-- Which denominator is chosen, and when none may be.
use Rattle.std.specs.Prelude.{◌≡◌, ℕ, ◌*◌, ◌%◌, ◌^◌, ◌<◌, ◌≤◌, ◌==◌, Bool, min, List, length, take}
use Rattle.std.specs.Coded.{×_prop, Unit-prop, le_prop}
use Rattle.cache_model.specs.declared.intervals.Interval.{Interval}
use Rattle.cache_model.specs.Units.{IsLeastWhole, weight}
use Rattle.relaxation.specs.declared.denominators.DenominatorChoice.{DenominatorChoice}
use Rattle.relaxation.specs.declared.denominators.DenominatorChoice.TheVariants.{Auto, Exact, Given}

-- the greatest denominator
abbrev pub most : ℕ
most = 2 ^ 48

-- a denominator that is given is in its range
abbrev pub IsChoice : DenominatorChoice → Type 0
IsChoice Auto = Unit {0}
IsChoice Exact = Unit {0}
IsChoice (Given n) = (1 ≤ n) × (n ≤ most)

-- a choice is in its range in one way
pub IsChoice-prop : (choice : DenominatorChoice) → IsProp (IsChoice choice)
IsChoice-prop Auto = Unit-prop
IsChoice-prop Exact = Unit-prop
IsChoice-prop (Given n) = ×_prop le_prop le_prop

-- whether the cost of an interval is not rounded
abbrev pub has_whole_cost : ℕ → ℕ → Interval → Bool
has_whole_cost unit denominator i = denominator * i.gain % weight unit i == 0

-- the least denominator that rounds no cost passes the greatest one
abbrev pub PassesMost : List Interval → ℕ → Type 0
PassesMost intervals unit = (least : ℕ) × IsLeastWhole intervals unit least × (most < least)

-- the least that rounds no cost, or the greatest one if that passes it; that least one; the one that is given
abbrev pub IsChosen : DenominatorChoice → List Interval → ℕ → ℕ → Type 0
IsChosen Auto intervals unit denominator = (least : ℕ) × IsLeastWhole intervals unit least × (denominator ≡ min least most)
IsChosen Exact intervals unit denominator = IsLeastWhole intervals unit denominator × (denominator ≤ most)
IsChosen (Given n) intervals unit denominator = denominator ≡ n

-- of the first n intervals the least denominator passes the greatest one, and of no fewer
pub record IsFirstPast (intervals : List Interval) (unit n : ℕ) : Type 0 where
  pub within : n ≤ length intervals
  pub past : PassesMost (take n intervals) unit
  pub none_before : (k : ℕ) → k < n → ¬ (PassesMost (take k intervals) unit)
