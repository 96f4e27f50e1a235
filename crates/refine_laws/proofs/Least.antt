-- Prices that are settled in one block of all steps but the last.
use Rattle.std.proofs.Common.{◌≡◌, ◌∙◌, ℕ, ◌+◌, ◌-◌, ◌*◌, ◌/◌, ◌<◌, ◌≤◌, ap, sym, refl, arith, List, [], ◌∷◌, ⊎_elim, length, get_or, set, sum, sum_by, All}
use Rattle.std.proofs.Math.Nat.{mul-le-mul_left}
use Rattle.std.proofs.lemmas.Bool.{cases_lt}
use Rattle.std.proofs.lemmas.List.{get_or-set_other, get_or-set_same, get_or_past, length-map, length-set, set_past}
use Rattle.std.proofs.lemmas.List.Elements.{All-head, All-tail}
use Rattle.std.proofs.lemmas.List.Sums.{sum_by-cons, sum_by-set}
use Rattle.cache_model.specs.declared.objects.Object.{Object}
use Rattle.cache_model.specs.declared.intervals.Interval.{Interval}
use Rattle.cache_model.specs.declared.certificates.Record.{Record}
use Rattle.cache_model.specs.Certificates.{prices_of, units_of}
use Rattle.cache_model.specs.Claim.{Terms, terms_of}
use Rattle.cache_model.specs.Intervals.{bound_of, eligible_intervals, surplus}
use Rattle.cache_model.specs.Laws.{IsEligible}
use Rattle.cache_model.specs.Objects.{IsNext}
use Rattle.cache_model.proofs.Members.{All-eligible_intervals}
use Rattle.price_refine.specs.Blocks.{AgreeOutside, block_end, block_start}
use Rattle.price_refine.proofs.Slices.{same_slice}
use Rattle.refine_laws.specs.Laws.{RefinedWholeIsLeast, SettledWholeIsLeast}

-- prices, with 0 at step n
abbrev without : List ℕ → ℕ → List ℕ
without prices n = set prices n 0

-- their sum is no greater
sum-without : (prices : List ℕ) (n : ℕ) → sum (without prices n) ≤ sum prices
sum-without prices n =
    ⊎_elim
    (λ (within : n < length prices). omega (arith, sum_by-set (λ (p : ℕ). p) prices n 0 0 within))
    (λ (past : length prices ≤ n). omega (arith, ap sum (set_past prices n 0 past)))
    (cases_lt n (length prices))

-- an interval that doesn't cover step n has the same surplus
surplus-without : (unit denominator n : ℕ) (prices : List ℕ) (i : Interval) → i.end ≤ n → surplus unit denominator (without prices n) i ≡ surplus unit denominator prices i
surplus-without unit denominator n prices i before =
    ap (λ (slice : List ℕ). denominator * i.gain - (i.size / unit) * sum slice)
    (same_slice prices (without prices n) i.start i.end (length-set prices n 0) (λ t from to. get_or-set_other prices n t 0 0 (λ same. omega arith)))

surpluses-without : (unit denominator n : ℕ) (prices : List ℕ) (items : List Interval) → All (λ i. i.end ≤ n) items
    → sum_by (surplus unit denominator (without prices n)) items ≡ sum_by (surplus unit denominator prices) items
surpluses-without unit denominator n prices [] before = refl
surpluses-without unit denominator n prices (i ∷ items) before =
    omega (
      arith,
      sum_by-cons (surplus unit denominator (without prices n)) i items,
      sum_by-cons (surplus unit denominator prices) i items,
      surplus-without unit denominator n prices i (All-head (λ i. i.end ≤ n) i items before),
      surpluses-without unit denominator n prices items (All-tail (λ i. i.end ≤ n) i items before),
    )

-- so the bound is no greater if no interval covers step n
bound-without : (unit units denominator n : ℕ) (prices : List ℕ) (items : List Interval) → All (λ i. i.end ≤ n) items
    → bound_of items unit units denominator (without prices n) ≤ bound_of items unit units denominator prices
bound-without unit units denominator n prices items before =
    omega (arith, surpluses-without unit denominator n prices items before, mul-le-mul_left units (sum-without prices n))

-- no eligible interval covers the last step
end-le : (terms : Terms) (trace : List Object) → All (λ i. i.end ≤ length trace - 1) (eligible_intervals terms trace)
end-le terms trace k d within =
    let eligible : IsEligible terms trace (get_or (eligible_intervals terms trace) k d) = All-eligible_intervals terms trace k d within in
    let next : IsNext trace (get_or (eligible_intervals terms trace) k d).start (get_or (eligible_intervals terms trace) k d).end = eligible.next in
    omega arith

-- prices that are 0 at the last step n agree from there on
zero-after : (prices others : List ℕ) (n t : ℕ) → length others ≡ length prices → length others ≤ n + 1 → get_or prices n 0 ≡ 0 → n ≤ t → get_or (without others n) t 0 ≡ get_or prices t 0
zero-after prices others n t same few none high =
    ⊎_elim
    (λ (within : t < length others).
    let e : t ≡ n = omega arith in
    ap (λ k. get_or (without others n) k 0) e ∙ get_or-set_same others n 0 0 (omega arith) ∙ sym none ∙ ap (λ k. get_or prices k 0) (sym e))
    (λ (past : length others ≤ t). get_or_past (without others n) t 0 (omega (arith, length-set others n 0)) ∙ sym (get_or_past prices t 0 (omega arith)))
    (cases_lt t (length others))

pub settled_whole_is_least : SettledWholeIsLeast
settled_whole_is_least terms trace unit units denominator width prices others settled few many none same =
    let n : ℕ = length trace - 1 in
    let agree : AgreeOutside (block_start width 0) (block_end (length prices) width 0) prices (without others n) = record {
      steps = omega (arith, length-set others n 0);
      before = λ t low. absurd (omega arith);
      after = λ t high. zero-after prices others n t (omega arith) (omega arith) none (omega arith);
    } in
    omega (arith, settled 0 (without others n) agree, bound-without unit units denominator n others (eligible_intervals terms trace) (end-le terms trace))

pub refined_whole_is_least : RefinedWholeIsLeast
refined_whole_is_least trace fills h records width others valid settled few same =
    let many : length (prices_of records) ≡ length trace = omega (arith, length-map records (λ (r : Record). r.price), valid.certificate.count, valid.requests) in
    omega (arith, valid.upper, settled_whole_is_least (terms_of h fills) trace h.unit (units_of h) h.denominator width (prices_of records) others settled few many valid.last_price same)
