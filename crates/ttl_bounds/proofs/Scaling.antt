-- The unit is within the capacity, so that the cache has a unit.
use Rattle.std.proofs.Common.{ℕ, ◌/◌, ◌<◌, ◌≤◌, refl, arith, List, [], ◌∷◌, All}
use Prim.Native.Nat.{◌∣◌}
use Rattle.std.proofs.lemmas.List.Elements.{All-head}
use Rattle.std.proofs.lemmas.Nat.{le-div}
use Rattle.std.proofs.lemmas.Nat.Gcd.{le_of_dvd}
use Rattle.cache_model.specs.declared.intervals.Interval.{Interval}
use Rattle.cache_model.specs.Units.{IsUnit}
use Rattle.interval_maker.specs.Timelines.{Timeline, IsTimeline, IsInterval}

-- the unit is at most the capacity
pub unit-le_capacity : (line : Timeline) (capacity unit : ℕ) → 1 ≤ capacity → IsTimeline line → All (λ i. i.size ≤ capacity) line.items
    → IsUnit line.items unit → unit ≤ capacity
unit-le_capacity line capacity unit some is_line fit is_unit = at line.items is_line.intervals fit is_unit
  where
    at : (xs : List Interval) → All (IsInterval line.steps) xs → All (λ i. i.size ≤ capacity) xs → IsUnit xs unit → unit ≤ capacity
    at [] shaped within of = omega (arith, of.one_if_none refl)
    at (i ∷ xs) shaped within of =
        let here : IsInterval line.steps i = All-head (IsInterval line.steps) i xs shaped in
        let size : i.size ≤ capacity = All-head (λ (j : Interval). j.size ≤ capacity) i xs within in
        let positive : 0 < i.size = omega (arith, here.size.0) in
        omega (arith, le_of_dvd {m = unit} {n = i.size} positive (All-head (λ (j : Interval). unit ∣ j.size) i xs of.divides))

-- so there is a unit of the cache
pub some_units : (capacity unit : ℕ) → 1 ≤ unit → unit ≤ capacity → 1 ≤ capacity / unit
some_units capacity unit positive within = le-div 1 capacity unit positive (omega arith)
