-- The arcs that are kept, and whether prices suit the passing arcs that aren't.
use Rattle.std.proofs.Common.{◌≡◌, ◌∙◌, ℕ, ◌+◌, ◌-◌, ◌<◌, ◌≤◌, ap, refl, Bool, cond, eqb, arith, List, [], ◌∷◌, length, map, filter, take, get_or, sum_by, count_by, All}
use Rattle.std.specs.List.{range_with_len}
use Rattle.std.proofs.lemmas.List.{get_or-map, length-map, take_all}
use Rattle.std.proofs.lemmas.List.Elements.{All-append}
use Rattle.std.proofs.lemmas.List.FromFn.{length-range_with_len}
use Rattle.std.proofs.lemmas.List.Sums.{count_by-le-length, length-filter, sum_by-cons}
use Rattle.cache_model.proofs.Keeps.{All-filter_range}
use Rattle.flow_model.specs.declared.arcs.OuterArc.{OuterArc}
use Rattle.flow_model.specs.Instances.{IsInstance, arc_at, no_arc}
use Rattle.flow_model.specs.Windows.{meets}
use Rattle.flow_windows.specs.Cuts.{Cut, numbers_of}
use Rattle.window_arcs.specs.Current.{IsSplit}
use Rattle.window_arcs.specs.Passing.{ends_at, local_numbers, starts_at}
use Rattle.window_arcs.proofs.Members.{times, times_at, times_once, times_passes}

-- numbers that are kept
module _ (cut : Cut) (kept full empty : List ℕ) (split : IsSplit cut kept full empty) where
  abbrev test : ℕ → Bool
  test i = meets cut.width cut.number (arc_at cut.whole.arcs i)

  split_times : (i : ℕ) → times i (numbers_of cut) ≡ times i kept + times i full + times i empty
  split_times i = split (λ j. cond (eqb j i) 1 0)

  -- no number is kept twice
  pub kept_once : (i : ℕ) → times i kept ≤ 1
  kept_once i = let once : times i (numbers_of cut) ≤ 1 = times_once test i (length cut.whole.arcs) in omega (arith, once, split_times i)

  -- each is that of an arc
  pub kept_low : (j : ℕ) → j < length kept → get_or kept j 0 < length cut.whole.arcs
  kept_low j within =
      let i : ℕ = get_or kept j 0 in
      let some : 0 < times i (numbers_of cut) = omega (arith, times_at i kept j within refl, split_times i) in
      (times_passes test i (length cut.whole.arcs) some).0

  ones : (xs : List ℕ) → sum_by (λ (i : ℕ). 1) xs ≡ length xs
  ones [] = refl
  ones (x ∷ xs) = omega (arith, sum_by-cons (λ (i : ℕ). 1) x xs, ones xs)

  -- and there are no more than arcs
  pub kept_few : length kept ≤ length cut.whole.arcs
  kept_few =
      let all : List ℕ = range_with_len 0 (length cut.whole.arcs) in
      let sums : sum_by (λ (i : ℕ). 1) (numbers_of cut) ≡ sum_by (λ (i : ℕ). 1) kept + sum_by (λ (i : ℕ). 1) full + sum_by (λ (i : ℕ). 1) empty = split (λ i. 1) in
      let filtered : length (numbers_of cut) ≡ count_by test all = length-filter test all in
      omega (arith, sums, ones (numbers_of cut), ones kept, filtered, count_by-le-length test all, length-range_with_len 0 (length cut.whole.arcs))

  -- their arcs are an instance
  pub kept_instance_fits : (units less : ℕ) (arcs : List OuterArc) (i : ℕ) → IsInstance cut.whole → units ≡ cut.whole.units → less < units → arcs ≡ map (arc_at cut.whole.arcs) (take i kept) → length kept ≤ i
      → IsInstance (record { steps = cut.whole.steps; units = units - less; arcs = arcs })
  kept_instance_fits units less arcs i in_range same room are past =
      let all : arcs ≡ map (arc_at cut.whole.arcs) kept = are ∙ ap (map (arc_at cut.whole.arcs)) (take_all i kept past) in
      let many : length arcs ≡ length kept = ap length all ∙ length-map kept (arc_at cut.whole.arcs) in
      record {
        few_steps = in_range.few_steps;
        some_units = omega arith;
        few_units = omega (arith, same, in_range.few_units);
        few_arcs = omega (arith, many, kept_few, in_range.few_arcs);
        arcs_fit = λ j d within.
            let low : j < length kept = omega (arith, many, within) in
            let is : get_or arcs j d ≡ arc_at cut.whole.arcs (get_or kept j 0) = ap (λ xs. get_or xs j d) all ∙ get_or-map (arc_at cut.whole.arcs) kept j 0 d low in
            rw is (in_range.arcs_fit (get_or kept j 0) no_arc (kept_low j low));
      }

-- the numbers of those that don't pass are those of arcs
pub local_low : (cut : Cut) → All (λ i. i < length cut.whole.arcs) (local_numbers cut)
local_low cut =
    All-append (λ i. i < length cut.whole.arcs) (filter (starts_at cut) (range_with_len 0 (length cut.whole.arcs))) (filter (ends_at cut) (range_with_len 0 (length cut.whole.arcs)))
    (All-filter_range (λ i. i < length cut.whole.arcs) (starts_at cut) 0 (length cut.whole.arcs) (λ i low high passes. omega arith))
    (All-filter_range (λ i. i < length cut.whole.arcs) (ends_at cut) 0 (length cut.whole.arcs) (λ i low high passes. omega arith))
