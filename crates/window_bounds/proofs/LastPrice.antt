-- A last step that no arc covers has no price.
use Rattle.std.proofs.Common.{◌≡◌, ◌∙◌, ℕ, ◌+◌, ◌-◌, ◌*◌, ◌<◌, ◌≤◌, ap, sym, refl, true, arith, List, [], ◌∷◌, ◌++◌, length, map, filter, take, get_or, sum, sum_by, slice_range, All, drop, length-append, length-drop, ⊎_elim}
use Rattle.std.proofs.Math.Nat.{mul-le-mul_left}
use Rattle.std.proofs.lemmas.Bool.{cases_lt, ltb-true}
use Rattle.std.proofs.lemmas.List.{length-take, length-take-le, take_all, take_more}
use Rattle.std.proofs.lemmas.List.Edits.{get_or-between}
use Rattle.std.proofs.lemmas.List.Elements.{All-filter, All-head, All-map, All-tail, filter_passes}
use Rattle.std.proofs.lemmas.List.Sums.{sum_by-append, sum_by-cons}
use Rattle.cache_model.proofs.Streams.{slice_range-append}
use Rattle.flow_model.specs.declared.arcs.OuterArc.{OuterArc}
use Rattle.flow_model.specs.Instances.{Instance, IsLeast, surplus}
use Rattle.flow_model.specs.Windows.{meets, part_of, part_steps, window_instance}
use Rattle.window_bounds.specs.Solutions.{prices_in}

-- the arc covers no step from this one on
pub record IsBefore (step : ℕ) (arc : OuterArc) : Type 0 where
  pub order : arc.start ≤ arc.end
  pub before : arc.end ≤ step

-- so what it earns is the same at any price of that step
same_surplus : (prefix : List ℕ) (price : ℕ) (arcs : List OuterArc) → All (IsBefore (length prefix)) arcs → sum_by (surplus (prefix ++ price ∷ [])) arcs ≡ sum_by (surplus prefix) arcs
same_surplus prefix price [] fit = refl
same_surplus prefix price (arc ∷ arcs) fit =
    let first = All-head (IsBefore (length prefix)) arc arcs fit in
    let over : slice_range (prefix ++ price ∷ []) arc.start arc.end ≡ slice_range prefix arc.start arc.end = slice_range-append prefix price arc.start arc.end (omega (arith, first.order, first.before)) first.before in
    omega (
      arith,
      same_surplus prefix price arcs (All-tail (IsBefore (length prefix)) arc arcs fit),
      sum_by-cons (surplus (prefix ++ price ∷ [])) arc arcs,
      sum_by-cons (surplus prefix) arc arcs,
      ap (λ (ps : List ℕ). arc.weight * arc.cost - arc.weight * sum ps) over,
    )

sum_push : (prefix : List ℕ) (price : ℕ) → sum (prefix ++ price ∷ []) ≡ sum prefix + price
sum_push prefix price = omega (arith, sum_by-append (λ (n : ℕ). n) prefix (price ∷ []), sum_by-cons (λ (n : ℕ). n) price [])

-- least prices have no price there
least_last : (instance : Instance) (prefix : List ℕ) (price : ℕ) → IsLeast instance (prefix ++ price ∷ []) → length prefix + 1 ≡ instance.steps → 0 < instance.units → All (IsBefore (length prefix)) instance.arcs → price ≡ 0
least_last instance prefix price least many some fit =
    let low = least (prefix ++ 0 ∷ []) (length-append prefix (0 ∷ []) ∙ many) in
    let paid : instance.units * price ≤ 0 = omega (
      arith,
      low,
      ap (λ s. instance.units * s) (sum_push prefix price),
      ap (λ s. instance.units * s) (sum_push prefix 0),
      same_surplus prefix price instance.arcs fit,
      same_surplus prefix 0 instance.arcs fit,
    ) in
    ⊎_elim
    (λ (priced : 0 < price). let one : instance.units * 1 ≤ instance.units * price = mul-le-mul_left instance.units priced in absurd (omega arith))
    (λ (free : price ≤ 0). omega arith)
    (cases_lt 0 price)

-- the price of the last step
pub last_price : (instance : Instance) (prices : List ℕ) (last : ℕ) → IsLeast instance prices → length prices ≡ instance.steps → last + 1 ≡ instance.steps → 0 < instance.units → All (IsBefore last) instance.arcs
    → get_or prices last 0 ≡ 0
last_price instance prices last least many is some fit =
    let prefix : List ℕ = take last prices in
    let split : prices ≡ prefix ++ get_or prices last 0 ∷ [] = sym (take_all (last + 1) prices (omega arith)) ∙ take_more prices last 0 (omega arith) in
    let long : length prefix ≡ last = length-take-le last prices (omega arith) in
    least_last instance prefix (get_or prices last 0) (rw (← split) least) (omega arith) some (rw long fit)

-- where no arc covers the last step of the whole, no part covers it in its window
part_before : (width k last : ℕ) (arc : OuterArc) → width * k ≤ last → arc.end ≤ last → meets width k arc ≡ true → IsBefore (last - width * k) (part_of width k arc)
part_before width k last arc starts ends met = let some = ltb-true 0 (part_steps width k arc) met in record { order = omega arith; before = omega arith }

-- so the last window has no price there
pub last_window_price : (whole : Instance) (width k : ℕ) (prices : List ℕ) → IsLeast (window_instance whole width k) (prices_in width k prices) → 0 < whole.units → length prices ≡ whole.steps
    → width * k < whole.steps → whole.steps ≤ width * (k + 1) → All (λ arc. arc.end < whole.steps) whole.arcs → get_or prices (whole.steps - 1) 0 ≡ 0
last_window_price whole width k prices least some many starts ends free =
    let from : ℕ = width * k in
    let last : ℕ = whole.steps - 1 - from in
    let window : List ℕ = prices_in width k prices in
    let met : List OuterArc = filter (meets width k) whole.arcs in
    let long : length window ≡ whole.steps - from = length-take (width * (k + 1) - from) (drop from prices) ∙ omega (arith, length-drop from prices) in
    let place : from + last ≡ whole.steps - 1 = omega arith in
    let parts : All (IsBefore last) (map (part_of width k) met) = All-map (IsBefore last) (part_of width k) met (λ i d within.
    let ending : (get_or met i d).end < whole.steps = All-filter (meets width k) (λ arc. arc.end < whole.steps) whole.arcs free i d within in
    part_before width k (whole.steps - 1) (get_or met i d) (omega arith) (omega arith) (filter_passes (meets width k) whole.arcs i d within)) in
    ap (λ n. get_or prices n 0) (sym place)
    ∙ sym (get_or-between prices from (width * (k + 1)) last 0 (omega arith))
    ∙ last_price (window_instance whole width k) window last least (omega arith) (omega arith) some parts
