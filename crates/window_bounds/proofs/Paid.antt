-- What the units of the windows are paid is at most what the arcs cost.
use Rattle.std.proofs.Common.{◌≡◌, ◌∙◌, ℕ, suc, zero, ◌+◌, ◌-◌, ◌*◌, ◌/◌, ◌<◌, ◌≤◌, ap, refl, min, max, Bool, true, false, cond, arith, List, [], ◌∷◌, map, filter, take, replicate, sum, sum_by, All, ⊎_elim}
use Rattle.std.specs.List.{range_with_len}
use Rattle.std.proofs.Math.Nat.{mul-le-mul_left}
use Rattle.std.proofs.lemmas.Bool.{cases_lt, cases_eq, eq-eqb, ne_eqb, le-ltb}
use Rattle.std.proofs.lemmas.List.{length-replicate}
use Rattle.std.proofs.lemmas.List.Elements.{All-head, All-tail}
use Rattle.std.proofs.lemmas.List.Folds.{sum_by-replicate}
use Rattle.std.proofs.lemmas.List.Sums.{sum_by-cons, sum_by-le-sum_by}
use Rattle.cache_model.proofs.Streams.{sum_by-range_last}
use Rattle.cache_model.proofs.Sums.{sum_by-agree, sum_by-filter, sum_by-map}
use Rattle.flow_model.specs.declared.arcs.OuterArc.{OuterArc}
use Rattle.flow_model.specs.Instances.{Instance, IsArc, IsLeast, surplus}
use Rattle.flow_model.specs.Windows.{last_window, meets, part_cost, part_of, part_share, part_steps, window_instance}
use Rattle.flow_model.proofs.Sums.{sum-slice_range}
use Rattle.window_bounds.specs.Solutions.{prices_in}

-- what the part of the arc in window k costs, and 0 if it has none
abbrev pub met_cost : ℕ → ℕ → OuterArc → ℕ
met_cost width k arc = cond (meets width k arc) (part_cost width k arc) 0

-- what the parts in the windows before window n cost
abbrev pub cost_before : ℕ → ℕ → OuterArc → ℕ
cost_before width n arc = sum_by (λ k. met_cost width k arc) (range_with_len 0 n)

-- the shares of those windows
abbrev shares_before : ℕ → ℕ → OuterArc → ℕ
shares_before width n arc = sum_by (λ k. part_share width k arc) (range_with_len 0 n)

-- how many steps the arc covers in those windows
abbrev steps_before : ℕ → ℕ → OuterArc → ℕ
steps_before width n arc = min arc.end (max arc.start (width * n)) - arc.start

-- a share is rounded down
share_more : (long cost shares steps more : ℕ) → 0 < long → long * shares ≤ cost * steps → long * (shares + cost * more / long) ≤ cost * (steps + more)
share_more long cost shares steps more some low = omega arith

shares-le-steps : (width n : ℕ) (arc : OuterArc) → arc.start < arc.end → (arc.end - arc.start) * shares_before width n arc ≤ arc.cost * steps_before width n arc
shares-le-steps width zero arc order = omega arith
shares-le-steps width (suc n) arc order =
    let next : width * suc n ≡ width * (n + 1) = ap (λ k. width * k) (omega arith) in
    let steps : steps_before width (suc n) arc ≡ steps_before width n arc + part_steps width n arc = omega arith in
    let more = share_more (arc.end - arc.start) arc.cost (shares_before width n arc) (steps_before width n arc) (part_steps width n arc) (omega arith) (shares-le-steps width n arc order) in
    omega (
      arith,
      more,
      ap (λ s. (arc.end - arc.start) * s) (sum_by-range_last (λ k. part_share width k arc) n),
      ap (λ s. arc.cost * s) steps,
    )

-- so the shares are at most the cost
at_most : (long cost shares steps : ℕ) → 0 < long → steps ≤ long → long * shares ≤ cost * steps → shares ≤ cost
at_most long cost shares steps some few low =
    let all : cost * steps ≤ cost * long = mul-le-mul_left cost few in
    ⊎_elim
    (λ (above : cost < shares). let more : long * (cost + 1) ≤ long * shares = mul-le-mul_left long (omega arith) in absurd (omega arith))
    (λ (below : shares ≤ cost). below)
    (cases_lt cost shares)

shares-le : (width n : ℕ) (arc : OuterArc) → arc.start < arc.end → shares_before width n arc ≤ arc.cost
shares-le width n arc order = at_most (arc.end - arc.start) arc.cost (shares_before width n arc) (steps_before width n arc) (omega arith) (omega arith) (shares-le-steps width n arc order)

met_cost-le : (width k : ℕ) (arc : OuterArc) → met_cost width k arc ≤ part_cost width k arc
met_cost-le width k arc = at (meets width k arc)
  where
    at : (b : Bool) → cond b (part_cost width k arc) 0 ≤ part_cost width k arc
    at true = omega arith
    at false = omega arith

-- before its last window an arc costs its shares
early : (width n : ℕ) (arc : OuterArc) → n ≤ last_window width arc → cost_before width n arc ≤ shares_before width n arc
early width zero arc low = omega arith
early width (suc n) arc low =
    let left : ℕ = arc.cost - shares_before width n arc in
    let cost : part_cost width n arc ≡ part_share width n arc = ap (λ b. cond b left (part_share width n arc)) (ne_eqb n (last_window width arc) (omega arith)) in
    omega (
      arith,
      early width n arc (omega arith),
      met_cost-le width n arc,
      cost,
      sum_by-range_last (λ k. met_cost width k arc) n,
      sum_by-range_last (λ k. part_share width k arc) n,
    )

-- and never more than its cost
pub cost_before-le : (width n : ℕ) (arc : OuterArc) → 0 < width → arc.start < arc.end → cost_before width n arc ≤ arc.cost
cost_before-le width zero arc some order = omega arith
cost_before-le width (suc n) arc some order =
    let last : ℕ = last_window width arc in
    let shares : ℕ = shares_before width n arc in
    let sum_of = sum_by-range_last (λ k. met_cost width k arc) n in
    ⊎_elim
    (λ (low : n < last). omega (arith, early width (suc n) arc (omega arith), shares-le width (suc n) arc order))
    (λ (high : last ≤ n).
    ⊎_elim
    (λ (is : n ≡ last).
    let cost : part_cost width n arc ≡ arc.cost - shares = ap (λ b. cond b (arc.cost - shares) (part_share width n arc)) (eq-eqb n last is) in
    omega (arith, sum_of, cost, met_cost-le width n arc, early width n arc (omega arith), shares-le width n arc order))
    (λ (other : n ≡ last → ⊥).
    let past : width * (last + 1) ≤ width * n = mul-le-mul_left width (omega arith) in
    let none : part_steps width n arc ≤ 0 = omega arith in
    omega (arith, sum_of, ap (λ b. cond b (part_cost width n arc) 0) (le-ltb 0 (part_steps width n arc) none), cost_before-le width n arc some order))
    (cases_eq n last))
    (cases_lt n last)

-- least prices are worth no more than no prices
least_paid : (instance : Instance) (prices : List ℕ) → IsLeast instance prices → instance.units * sum prices ≤ sum_by (λ arc. arc.weight * arc.cost) instance.arcs
least_paid instance prices least =
    let none : List ℕ = replicate instance.steps 0 in
    let nothing : sum none ≡ 0 = sum_by-replicate (λ (n : ℕ). n) instance.steps 0 ∙ omega arith in
    omega (
      arith,
      least none (length-replicate instance.steps 0),
      ap (λ s. instance.units * s) nothing,
      sum_by-le-sum_by (surplus none) (λ arc. arc.weight * arc.cost) instance.arcs (λ arc. omega arith),
    )

-- what the parts in window k cost at their weights
parts_worth : (width k : ℕ) (arcs : List OuterArc) → sum_by (λ arc. arc.weight * arc.cost) (map (part_of width k) (filter (meets width k) arcs)) ≡ sum_by (λ arc. arc.weight * met_cost width k arc) arcs
parts_worth width k arcs =
    sum_by-map (λ (arc : OuterArc). arc.weight * arc.cost) (part_of width k) (filter (meets width k) arcs)
    ∙ sum_by-filter (λ arc. arc.weight * part_cost width k arc) (meets width k) arcs
    ∙ sum_by-agree (λ arc. cond (meets width k arc) (arc.weight * part_cost width k arc) 0) (λ arc. arc.weight * met_cost width k arc) arcs (λ arc. at arc.weight (part_cost width k arc) (meets width k arc))
  where
    at : (weight cost : ℕ) (b : Bool) → cond b (weight * cost) 0 ≡ weight * cond b cost 0
    at weight cost true = refl
    at weight cost false = omega arith

worth_more : (width n : ℕ) (arcs : List OuterArc)
    → sum_by (λ arc. arc.weight * cost_before width n arc) arcs + sum_by (λ arc. arc.weight * met_cost width n arc) arcs ≡ sum_by (λ arc. arc.weight * cost_before width (suc n) arc) arcs
worth_more width n [] = refl
worth_more width n (arc ∷ arcs) =
    omega (
      arith,
      worth_more width n arcs,
      sum_by-cons (λ (a : OuterArc). a.weight * cost_before width n a) arc arcs,
      sum_by-cons (λ (a : OuterArc). a.weight * met_cost width n a) arc arcs,
      sum_by-cons (λ (a : OuterArc). a.weight * cost_before width (suc n) a) arc arcs,
      ap (λ s. arc.weight * s) (sum_by-range_last (λ k. met_cost width k arc) n),
    )

worth-le : (width n steps : ℕ) (arcs : List OuterArc) → 0 < width → All (IsArc steps) arcs → sum_by (λ arc. arc.weight * cost_before width n arc) arcs ≤ sum_by (λ arc. arc.weight * arc.cost) arcs
worth-le width n steps [] some fit = omega arith
worth-le width n steps (arc ∷ arcs) some fit =
    omega (
      arith,
      worth-le width n steps arcs some (All-tail (IsArc steps) arc arcs fit),
      sum_by-cons (λ (a : OuterArc). a.weight * cost_before width n a) arc arcs,
      sum_by-cons (λ (a : OuterArc). a.weight * a.cost) arc arcs,
      mul-le-mul_left arc.weight (cost_before-le width n arc some (All-head (IsArc steps) arc arcs fit).order),
    )

-- the prices of the windows before window n
pub paid_before : (whole : Instance) (width n : ℕ) (prices : List ℕ) → ((k : ℕ) → k < n → IsLeast (window_instance whole width k) (prices_in width k prices))
    → whole.units * sum (take (width * n) prices) ≤ sum_by (λ arc. arc.weight * cost_before width n arc) whole.arcs
paid_before whole width zero prices least = let none : width * 0 ≡ 0 = omega arith in omega (arith, ap (λ k. whole.units * sum (take k prices)) none)
paid_before whole width (suc n) prices least =
    let next : width * (n + 1) ≡ width * suc n = ap (λ k. width * k) (omega arith) in
    omega (
      arith,
      paid_before whole width n prices (λ k below. least k (omega arith)),
      least_paid (window_instance whole width n) (prices_in width n prices) (least n (omega arith)),
      parts_worth width n whole.arcs,
      worth_more width n whole.arcs,
      ap (λ s. whole.units * s) (sum-slice_range prices (width * n) (width * (n + 1)) (omega arith)),
      ap (λ k. whole.units * sum (take k prices)) next,
    )

-- the prices of all windows
pub paid_all : (whole : Instance) (width n : ℕ) (prices : List ℕ) → 0 < width → All (IsArc whole.steps) whole.arcs → ((k : ℕ) → k < n → IsLeast (window_instance whole width k) (prices_in width k prices))
    → whole.units * sum (take (width * n) prices) ≤ sum_by (λ arc. arc.weight * arc.cost) whole.arcs
paid_all whole width n prices some fit least = omega (arith, paid_before whole width n prices least, worth-le width n whole.steps whole.arcs some fit)
