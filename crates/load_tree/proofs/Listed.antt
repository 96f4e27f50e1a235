-- The loads of the lowest level as a list: fresh ones, and ones that have risen.
use Rattle.std.proofs.Common.{◌≡◌, ℕ, suc, zero, ◌+◌, ◌-◌, ◌*◌, ◌/◌, ◌<◌, ◌≤◌, ◌^◌, ◌∙◌, sym, refl, ap, subst, List, length, get_or, replicate, arith, ⊎_elim}
use Rattle.std.specs.Prelude.{◌⊎◌, min}
use Rattle.std.proofs.lemmas.Bool.{cases_lt, cases_order}
use Rattle.std.proofs.lemmas.List.{ext_get_or, get_or_past, get_or-replicate, length-replicate}
use Rattle.std.proofs.lemmas.List.FromFn.{get_or-map-range_with_len, length-map-range_with_len}
use Rattle.load_tree.specs.Levels.{IsLevels, RisesBy, greatest, groups_of, load_at, loads_in, places_of, top_of}
use Rattle.load_tree.specs.Ranges.{AddsOver}

pub at_loads : (height steps : ℕ) (values : List ℕ) (t : ℕ) → t < steps → get_or (loads_in height steps values) t 0 ≡ load_at height 0 steps values t
at_loads height steps values t short = get_or-map-range_with_len (load_at height 0 steps values) 0 steps t t 0 short (omega arith)

pub length-loads_in : (height steps : ℕ) (values : List ℕ) → length (loads_in height steps values) ≡ steps
length-loads_in height steps values = length-map-range_with_len (load_at height 0 steps values) 0 steps

pub past_loads : (height steps : ℕ) (values : List ℕ) (t : ℕ) → steps ≤ t → get_or (loads_in height steps values) t 0 ≡ 0
past_loads height steps values t past = get_or_past (loads_in height steps values) t 0 (omega (arith, length-loads_in height steps values))

-- ---- where all values are 0

module _ (values : List ℕ) (none : (p : ℕ) → get_or values p 0 ≡ 0) where
  greatest_none : (from count : ℕ) → greatest values from count ≡ 0
  greatest_none from zero = refl
  greatest_none from (suc count) = omega (arith, greatest_none from count, none (from + count))

  pub load_none : (height start count t : ℕ) → load_at height start count values t ≡ 0
  load_none zero start count t = none (start + t)
  load_none (suc height) start count t = omega (arith, none (start + t), load_none height (start + count) (groups_of count) (t / 16))

  pub levels_none : (height start count : ℕ) → start + places_of height count ≡ length values → top_of height count ≤ 16 → IsLevels height start count values
  levels_none zero start count whole few = (whole, few)
  levels_none (suc height) start count whole few = (
    λ g some. omega (arith, greatest_none (start + 16 * g) (min (16 * g + 16) count - 16 * g), none (start + count + g)),
    levels_none height (start + count) (groups_of count) (omega (arith, whole)) few,
  )

pub none_of_zeros : (n p : ℕ) → get_or {A = ℕ} (replicate n 0) p 0 ≡ 0
none_of_zeros n p =
    ⊎_elim
    (λ (low : p < n). get_or-replicate n p 0 0 (omega (arith, length-replicate {A = ℕ} n 0)))
    (λ (past : n ≤ p). get_or_past (replicate n 0) p 0 (omega (arith, length-replicate {A = ℕ} n 0)))
    (cases_lt p n)

-- ---- where loads have risen

pub adds_over : (height steps : ℕ) (old new : List ℕ) (from to amount : ℕ) → from < to → to ≤ steps → RisesBy (load_at height 0 steps old) (load_at height 0 steps new) steps from amount (to - 1) amount amount → AddsOver (loads_in height steps old) (loads_in height steps new) from to amount
adds_over height steps old new from to amount order within rises = record {
  steps = length-loads_in height steps new ∙ sym (length-loads_in height steps old);
  covered = λ t first last. omega (arith, at_loads height steps old t (omega arith), at_loads height steps new t (omega arith), covered t first last);
  before = λ t early. omega (arith, at_loads height steps old t (omega arith), at_loads height steps new t (omega arith), rises.before t early);
  after = λ t late. ⊎_elim
      (λ (short : t < steps). omega (arith, at_loads height steps old t short, at_loads height steps new t short, rises.after t (omega arith) short))
      (λ (past : steps ≤ t). omega (arith, past_loads height steps old t past, past_loads height steps new t past))
      (cases_lt t steps);
}
  where
    covered : (t : ℕ) → from ≤ t → t < to → load_at height 0 steps new t ≡ load_at height 0 steps old t + amount
    covered t first last =
        ⊎_elim
        (λ (at_low : t ≡ from). rw at_low rises.at_low)
        (λ (off_low : (t < from) ⊎ (from < t)).
        ⊎_elim
        (λ (at_high : t ≡ to - 1). rw at_high (rises.at_high (omega arith)))
        (λ (off_high : (t < to - 1) ⊎ (to - 1 < t)). rises.inside t (omega arith) (omega arith))
        (cases_order t (to - 1)))
        (cases_order t from)

pub small_after : (old new : ℕ → ℕ) (count low low_by high high_by between limit : ℕ) → RisesBy old new count low low_by high high_by between → ((t : ℕ) → t < count → old t < limit) → old low + low_by < limit → (low < high → old high + high_by < limit) → ((t : ℕ) → low < t → t < high → old t + between < limit)
    → (t : ℕ) → t < count → new t < limit
small_after old new count low low_by high high_by between limit rises small low_room high_room room t short =
    ⊎_elim
    (λ (at_low : t ≡ low). omega (arith, ap new at_low, rises.at_low, low_room))
    (λ (off_low : (t < low) ⊎ (low < t)).
    ⊎_elim
    (λ (early : t < low). omega (arith, rises.before t early, small t short))
    (λ (later : low < t).
    ⊎_elim
    (λ (at_high : t ≡ high). omega (arith, ap new at_high, rises.at_high (omega arith), high_room (omega arith)))
    (λ (off_high : (t < high) ⊎ (high < t)).
    ⊎_elim
    (λ (inside : t < high). omega (arith, rises.inside t later inside, room t later inside))
    (λ (late : high < t). omega (arith, rises.after t late short, small t short))
    off_high)
    (cases_order t high))
    off_low)
    (cases_order t low)

pub loads_fresh : (height steps places : ℕ) (values : List ℕ) → values ≡ replicate places 0 → loads_in height steps values ≡ replicate steps 0
loads_fresh height steps places values is =
    rw (sym is) at (zeros places)
  where
    zeros : (n : ℕ) → loads_in height steps (replicate n 0) ≡ replicate steps 0
    zeros n = ext_get_or 0 (loads_in height steps (replicate n 0)) (replicate steps 0) (omega (arith, length-loads_in height steps (replicate n 0), length-replicate {A = ℕ} steps 0))
        (λ t low.
        let short : t < steps = omega (arith, low, length-loads_in height steps (replicate n 0)) in
        omega (arith, at_loads height steps (replicate n 0) t short, load_none (replicate n 0) (none_of_zeros n) height 0 steps t, none_of_zeros steps t))

-- fresh levels, and loads below the limit
pub well_fresh : (height steps places : ℕ) (values : List ℕ) → values ≡ replicate places 0 → places ≡ places_of height steps → top_of height steps ≤ 16
    → IsLevels height 0 steps values × ((t : ℕ) → t < steps → load_at height 0 steps values t < 2 ^ 64)
well_fresh height steps places values is whole few = subst (λ vs. IsLevels height 0 steps vs × ((t : ℕ) → t < steps → load_at height 0 steps vs t < 2 ^ 64)) (sym is) (
  levels_none (replicate places 0) (none_of_zeros places) height 0 steps (omega (arith, length-replicate {A = ℕ} places 0)) few,
  λ t short. omega (arith, load_none (replicate places 0) (none_of_zeros places) height 0 steps t),
)
