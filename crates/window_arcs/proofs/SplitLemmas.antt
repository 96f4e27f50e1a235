-- The arcs that meet a window: those that start in it, those that end in it, and those that pass through it.
use Rattle.std.proofs.Common.{◌≡◌, ◌≢◌, ◌∙◌, ℕ, zero, suc, ◌+◌, ◌-◌, ◌*◌, ◌/◌, ◌<◌, ◌≤◌, ap, sym, refl, Bool, true, false, cond, not, eqb, ◌&&◌, nat_le, nat_lt, arith, List, ◌++◌, length, filter, get_or, take, sum_by, ⊎_elim}
use Rattle.std.specs.Int.{div_ceil}
use Rattle.std.specs.List.{range_with_len}
use Rattle.std.proofs.lemmas.Bool.{cases_Bool, cases_lt, eq-eqb, ne_eqb, eqb-true, leb-true, ltb-true, le-leb, lt-ltb, le-ltb, and_from, and_parts, false≢true}
use Rattle.std.proofs.lemmas.Grind.{div_ceil_times}
use Rattle.std.proofs.lemmas.List.{take_all}
use Rattle.std.proofs.lemmas.List.Sorted.{sum_by-IsPermutation}
use Rattle.std.proofs.lemmas.List.Sums.{sum_by-append, sum_by-cons}
use Rattle.std.proofs.Math.Nat.{mul-le-mul_left}
use Rattle.cache_model.proofs.Sums.{sum_by-filter}
use Rattle.flow_model.specs.declared.arcs.OuterArc.{OuterArc}
use Rattle.flow_model.specs.Instances.{IsInstance, arc_at, no_arc}
use Rattle.flow_model.specs.Windows.{last_window, meets, part_steps}
use Rattle.flow_windows.specs.Cuts.{Cut, numbers_of, starts_in}
use Rattle.window_arcs.specs.Passing.{IsOrder, ends_at, local_numbers, passes, passes_at, passes_some, passing_numbers, ranked_numbers, starts_at}
use Rattle.window_arcs.proofs.CurrentLemmas.{passing-append}
use Rattle.window_arcs.proofs.Members.{sum_by-agree_in}

-- one arc
module _ (width k : ℕ) (arc : OuterArc) (some : 0 < width) (order : arc.start < arc.end) where
  start_low : width * (arc.start / width) ≤ arc.start
  start_low = omega arith

  -- one that passes meets the window
  pass_meets : passes width k arc ≡ true → meets width k arc ≡ true
  pass_meets passing =
      let both = and_parts (nat_le arc.start (width * k)) (nat_lt (width * (k + 1)) arc.end) passing in
      let from : arc.start ≤ width * k = leb-true arc.start (width * k) both.0 in
      let until : width * (k + 1) < arc.end = ltb-true (width * (k + 1)) arc.end both.1 in
      lt-ltb 0 (part_steps width k arc) (omega arith)

  -- one that starts in it
  start_meets : starts_in width k arc ≡ true → meets width k arc ≡ true
  start_meets starting =
      let here : arc.start / width ≡ k = eqb-true (arc.start / width) k starting in
      let same : width * (arc.start / width) ≡ width * k = ap (λ n. width * n) here in
      let high : arc.start < width * (k + 1) = omega arith in
      lt-ltb 0 (part_steps width k arc) (omega (arith, same, high))

  -- and one that ends in it
  end_meets : eqb (last_window width arc) k ≡ true → meets width k arc ≡ true
  end_meets ending =
      let here : (arc.end - 1) / width ≡ k = eqb-true (last_window width arc) k ending in
      let same : width * ((arc.end - 1) / width) ≡ width * k = ap (λ n. width * n) here in
      let low : width * k ≤ arc.end - 1 = omega arith in
      let high : arc.end - 1 < width * (k + 1) = omega arith in
      lt-ltb 0 (part_steps width k arc) (omega (arith, low, high))

  -- one that passes ends later
  pass_later : passes width k arc ≡ true → eqb (last_window width arc) k ≡ false
  pass_later passing =
      let both = and_parts (nat_le arc.start (width * k)) (nat_lt (width * (k + 1)) arc.end) passing in
      let until : width * (k + 1) < arc.end = ltb-true (width * (k + 1)) arc.end both.1 in
      ne_eqb (last_window width arc) k (λ here.
      let same : width * ((arc.end - 1) / width) ≡ width * k = ap (λ n. width * n) here in
      omega (arith, until, same))

  -- and no other meets it
  else_apart : passes width k arc ≡ false → starts_in width k arc ≡ false → eqb (last_window width arc) k ≡ false → meets width k arc ≡ false
  else_apart not_passing not_starting not_ending =
      ⊎_elim
      (λ (met : 0 < part_steps width k arc).
      let not_start : arc.start / width ≢ k = λ here. false≢true (sym not_starting ∙ eq-eqb (arc.start / width) k here) in
      let not_end : (arc.end - 1) / width ≢ k = λ here. false≢true (sym not_ending ∙ eq-eqb (last_window width arc) k here) in
      let from : arc.start ≤ width * k =
      ⊎_elim
      (λ (late : k < arc.start / width). let after : width * (k + 1) ≤ width * (arc.start / width) = mul-le-mul_left width (omega arith) in absurd (omega (arith, met, after)))
      (λ (early : arc.start / width ≤ k). let before : width * (arc.start / width + 1) ≤ width * k = mul-le-mul_left width (omega arith) in omega (arith, before))
      (cases_lt k (arc.start / width)) in
      let until : width * (k + 1) < arc.end =
      ⊎_elim
      (λ (late : k < (arc.end - 1) / width). let after : width * (k + 1) ≤ width * ((arc.end - 1) / width) = mul-le-mul_left width (omega arith) in omega (arith, after))
      (λ (early : (arc.end - 1) / width ≤ k). let before : width * ((arc.end - 1) / width + 1) ≤ width * k = mul-le-mul_left width (omega arith) in absurd (omega (arith, met, before)))
      (cases_lt k ((arc.end - 1) / width)) in
      absurd (false≢true (sym not_passing ∙ and_from (nat_le arc.start (width * k)) (nat_lt (width * (k + 1)) arc.end) (le-leb arc.start (width * k) from) (lt-ltb (width * (k + 1)) arc.end until))))
      (λ (none : part_steps width k arc ≤ 0). le-ltb 0 (part_steps width k arc) none)
      (cases_lt 0 (part_steps width k arc))

-- so it is one of the three
one_of_three : (h : ℕ) (s p e m : Bool) → (p ≡ true → m ≡ true) → (s ≡ true → m ≡ true) → (e ≡ true → m ≡ true) → (p ≡ true → e ≡ false) → (p ≡ false → s ≡ false → e ≡ false → m ≡ false)
    → cond m h 0 ≡ cond (s && not p) h 0 + cond (e && not s) h 0 + cond p h 0
one_of_three h true true true m pm sm em pe none = absurd (false≢true (sym (pe refl)))
one_of_three h true true false m pm sm em pe none = ap (λ (b : Bool). cond b h 0) (pm refl) ∙ omega arith
one_of_three h true false true m pm sm em pe none = ap (λ (b : Bool). cond b h 0) (sm refl) ∙ omega arith
one_of_three h true false false m pm sm em pe none = ap (λ (b : Bool). cond b h 0) (sm refl) ∙ omega arith
one_of_three h false true true m pm sm em pe none = absurd (false≢true (sym (pe refl)))
one_of_three h false true false m pm sm em pe none = ap (λ (b : Bool). cond b h 0) (pm refl) ∙ omega arith
one_of_three h false false true m pm sm em pe none = ap (λ (b : Bool). cond b h 0) (em refl) ∙ omega arith
one_of_three h false false false m pm sm em pe none = ap (λ (b : Bool). cond b h 0) (none refl refl refl)

-- an arc that passes through a window passes through the first that begins no earlier than it
pub pass_somewhere : (width k : ℕ) (arc : OuterArc) → 0 < width → passes width k arc ≡ true → passes_some width arc ≡ true
pass_somewhere width k arc some passing =
    let both = and_parts (nat_le arc.start (width * k)) (nat_lt (width * (k + 1)) arc.end) passing in
    let from : arc.start ≤ width * k = leb-true arc.start (width * k) both.0 in
    let until : width * (k + 1) < arc.end = ltb-true (width * (k + 1)) arc.end both.1 in
    let first : ℕ = div_ceil arc.start width in
    let near = div_ceil_times arc.start width some in
    let early : first ≤ k =
    ⊎_elim
    (λ (late : k < first). let after : width * (k + 1) ≤ width * first = mul-le-mul_left width (omega arith) in absurd (omega (arith, near.1, after, from)))
    (λ (early : first ≤ k). early)
    (cases_lt k first) in
    let before : width * (first + 1) ≤ width * (k + 1) = mul-le-mul_left width (omega (arith, early)) in
    and_from (nat_le arc.start (width * first)) (nat_lt (width * (first + 1)) arc.end) (le-leb arc.start (width * first) (omega (arith, near.0))) (lt-ltb (width * (first + 1)) arc.end (omega (arith, before, until)))

-- sums over a range
sum_of_three : (f a b c : ℕ → ℕ) (from n past : ℕ) → from + n ≡ past → ((i : ℕ) → i < past → f i ≡ a i + b i + c i)
    → sum_by f (range_with_len from n) ≡ sum_by a (range_with_len from n) + sum_by b (range_with_len from n) + sum_by c (range_with_len from n)
sum_of_three f a b c from zero past all each = refl
sum_of_three f a b c from (suc n) past all each =
    omega (
      arith,
      sum_by-cons f from (range_with_len (from + 1) n),
      sum_by-cons a from (range_with_len (from + 1) n),
      sum_by-cons b from (range_with_len (from + 1) n),
      sum_by-cons c from (range_with_len (from + 1) n),
      each from (omega arith),
      sum_of_three f a b c (from + 1) n past (omega arith) each,
    )

-- all arcs
module _ (cut : Cut) (order ranks : List ℕ) (some : 0 < cut.width) (in_range : IsInstance cut.whole) (is : IsOrder cut.width cut.whole.arcs order ranks) (h : ℕ → ℕ) where
  abbrev all : List ℕ
  all = range_with_len 0 (length cut.whole.arcs)

  abbrev test : ℕ → Bool
  test i = meets cut.width cut.number (arc_at cut.whole.arcs i)

  each : (i : ℕ) → i < length cut.whole.arcs → cond (test i) (h i) 0 ≡ cond (starts_at cut i) (h i) 0 + cond (ends_at cut i) (h i) 0 + cond (passes_at cut i) (h i) 0
  each i within =
      let arc : OuterArc = arc_at cut.whole.arcs i in
      let order : arc.start < arc.end = (in_range.arcs_fit i no_arc within).order in
      one_of_three (h i) (starts_in cut.width cut.number arc) (passes cut.width cut.number arc) (eqb (last_window cut.width arc) cut.number) (test i) (pass_meets cut.width cut.number arc some order)
      (start_meets cut.width cut.number arc some order) (end_meets cut.width cut.number arc some order) (pass_later cut.width cut.number arc some order) (else_apart cut.width cut.number arc some order)

  -- those that pass, pass somewhere
  somewhere : (i : ℕ) → cond (passes_at cut i) (h i) 0 ≡ cond (passes_some cut.width (arc_at cut.whole.arcs i)) (cond (passes_at cut i) (h i) 0) 0
  somewhere i =
      let arc : OuterArc = arc_at cut.whole.arcs i in
      ⊎_elim
      (λ (passing : passes_at cut i ≡ true). ap (λ (b : Bool). cond b (cond (passes_at cut i) (h i) 0) 0) (sym (pass_somewhere cut.width cut.number arc some passing)))
      (λ (outside : passes_at cut i ≡ false). ap (λ (b : Bool). cond b (h i) 0) outside ∙ none (passes_some cut.width arc) ∙ ap (λ (b : Bool). cond (passes_some cut.width arc) (cond b (h i) 0) 0) (sym outside))
      (cases_Bool (passes_at cut i))
    where
      none : (b : Bool) → ◌≡◌ {A = ℕ} 0 (cond b 0 0)
      none true = refl
      none false = refl

  -- those that pass, in the order of their ranks
  by_ranks : sum_by (λ i. cond (passes_at cut i) (h i) 0) all ≡ sum_by h (passing_numbers cut order 0 (length order))
  by_ranks =
      let zero : length order - 0 ≡ length order = omega arith in
      sum_by-agree_in (λ i. cond (passes_at cut i) (h i) 0) (λ i. cond (passes_some cut.width (arc_at cut.whole.arcs i)) (cond (passes_at cut i) (h i) 0) 0) all (λ j within. somewhere (get_or all j 0))
      ∙ sym (sum_by-filter (λ i. cond (passes_at cut i) (h i) 0) (λ i. passes_some cut.width (arc_at cut.whole.arcs i)) all)
      ∙ sym (sum_by-IsPermutation (λ i. cond (passes_at cut i) (h i) 0) (ranked_numbers cut.width cut.whole.arcs) order is.all)
      ∙ sym (sum_by-filter h (passes_at cut) order)
      ∙ ap (λ xs. sum_by h (filter (passes_at cut) xs)) (sym (take_all (length order) order (omega arith)))
      ∙ ap (λ n. sum_by h (filter (passes_at cut) (take n order))) (sym zero)

  pub split_sum : (first end : ℕ) → first ≤ end → end ≤ length order
      → sum_by h (numbers_of cut) ≡ sum_by h (local_numbers cut ++ passing_numbers cut order first end) + sum_by h (passing_numbers cut order 0 first) + sum_by h (passing_numbers cut order end (length order))
  split_sum first end sorted within =
      let before : List ℕ = passing_numbers cut order 0 first in
      let between : List ℕ = passing_numbers cut order first end in
      let after : List ℕ = passing_numbers cut order end (length order) in
      omega (
        arith,
        sum_by-filter h test all,
        sum_of_three (λ i. cond (test i) (h i) 0) (λ i. cond (starts_at cut i) (h i) 0) (λ i. cond (ends_at cut i) (h i) 0) (λ i. cond (passes_at cut i) (h i) 0) 0 (length cut.whole.arcs) (length cut.whole.arcs) (omega arith) each,
        sum_by-filter h (starts_at cut) all,
        sum_by-filter h (ends_at cut) all,
        sum_by-append h (filter (starts_at cut) all) (filter (ends_at cut) all),
        sum_by-append h (local_numbers cut) between,
        by_ranks,
        ap (sum_by h) (passing-append cut order 0 first (length order) (omega arith) (omega arith)),
        sum_by-append h before (passing_numbers cut order first (length order)),
        ap (sum_by h) (passing-append cut order first end (length order) sorted within),
        sum_by-append h between after,
      )
