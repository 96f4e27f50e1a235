-- The rank of each number of an order, and what is put at the ranks of some arcs.
use Rattle.std.proofs.Common.{◌≡◌, ◌≢◌, ◌∙◌, ◌||◌, ℕ, ◌+◌, ◌<◌, ◌≤◌, ap, sym, refl, subst, Bool, true, false, cond, eqb, arith, List, length, filter, get_or, set, take, length-set, ⊎_elim}
use Rattle.std.specs.List.{range_with_len, list_any}
use Rattle.std.specs.List.Sorted.{IsPermutation}
use Rattle.std.proofs.lemmas.Bool.{both_ways, cases_eq, cases_order, eq-eqb, ne_eqb, or_right}
use Rattle.std.proofs.lemmas.List.{get_or-set_other, get_or-set_same, take_all}
use Rattle.std.proofs.lemmas.List.Folds.{list_any_more}
use Rattle.std.proofs.lemmas.List.Sorted.{sum_by-IsPermutation}
use Rattle.cache_model.proofs.Eligible.{or_false}
use Rattle.flow_model.specs.declared.arcs.OuterArc.{OuterArc}
use Rattle.flow_model.specs.Instances.{arc_at}
use Rattle.flow_windows.specs.Cuts.{Cut}
use Rattle.window_arcs.specs.Current.{ArePut, passing_mark, passing_weight}
use Rattle.window_arcs.specs.Passing.{IsOrder, passes, passes_some}
use Rattle.window_arcs.proofs.Members.{times_once, times_twice}
use Rattle.window_arcs.proofs.OrderLemmas.{numbers_pass, numbers_within}

-- no number stands at two places
once : (p : ℕ → Bool) (n : ℕ) (order : List ℕ) (r s : ℕ) → IsPermutation (filter p (range_with_len 0 n)) order → r < s → s < length order → get_or order r 0 ≢ get_or order s 0
once p n order r s all before within same =
    let i : ℕ = get_or order s 0 in
    omega (arith, times_twice i order r s before within same refl, sum_by-IsPermutation (λ j. cond (eqb j i) 1 0) (filter p (range_with_len 0 n)) order all, times_once p i n)

-- the rank of the number of that rank
pub rank_of : (width : ℕ) (arcs : List OuterArc) (order ranks : List ℕ) (r : ℕ) → IsOrder width arcs order ranks → r < length order → get_or ranks (get_or order r 0) 0 ≡ r
rank_of width arcs order ranks r ordered within =
    let p : ℕ → Bool = λ i. passes_some width (arc_at arcs i) in
    let number : ℕ = get_or order r 0 in
    let low : number < length arcs = numbers_within width arcs order ordered.all r 0 within in
    let passing : p number ≡ true = numbers_pass width arcs order ordered.all r 0 within in
    let s : ℕ = get_or ranks number 0 in
    let rank_low : s < length order = ordered.ranks_within number low passing in
    let same : get_or order s 0 ≡ number = ordered.ranked number low passing in
    ⊎_elim (λ (is : s ≡ r). is)
    (⊎_elim (λ (below : s < r). absurd (once p (length arcs) order s r ordered.all below within same))
    (λ (above : r < s). absurd (once p (length arcs) order r s ordered.all above rank_low (sym same))))
    (cases_order s r)

-- at first nothing is put
pub put_none : (has : ℕ → ℕ) (order changed old : List ℕ) → ArePut has order (take 0 changed) old old
put_none has order changed old = record { each_rank = refl; put = λ r within. refl }

-- a number is among some with one more that is another, if it is among them
among_same : (changed : List ℕ) (k number x : ℕ) → k < length changed → number ≡ get_or changed k 0 → number ≢ x → list_any (λ i. eqb i x) (take k changed) ≡ list_any (λ i. eqb i x) (take (k + 1) changed)
among_same changed k number x more is other =
    sym (or_false (list_any (λ i. eqb i x) (take k changed)))
    ∙ ap (λ b. list_any (λ i. eqb i x) (take k changed) || b) (sym (ne_eqb number x other))
    ∙ ap (λ i. list_any (λ i. eqb i x) (take k changed) || eqb i x) is
    ∙ sym (list_any_more (λ i. eqb i x) changed k 0 more)

-- the number of one more arc is put
pub put_more : (has : ℕ → ℕ) (width : ℕ) (arcs : List OuterArc) (order ranks changed old sums : List ℕ) (k number value : ℕ) → ArePut has order (take k changed) old sums → IsOrder width arcs order ranks → length old ≡ length order
    → k < length changed → number ≡ get_or changed k 0 → number < length arcs → passes_some width (arc_at arcs number) ≡ true → value ≡ has number
    → ArePut has order (take (k + 1) changed) old (set sums (get_or ranks number 0) value)
put_more has width arcs order ranks changed old sums k number value are ordered long more is low passing is_value =
    let place : ℕ = get_or ranks number 0 in
    let inside : place < length sums = omega (arith, are.each_rank, long, ordered.ranks_within number low passing) in
    let among : ℕ → Bool = λ x. list_any (λ i. eqb i x) (take (k + 1) changed) in
    record {
      each_rank = length-set sums place value ∙ are.each_rank;
      put = λ r within.
          let x : ℕ = get_or order r 0 in
          ⊎_elim
          (λ (same : r ≡ place).
          let this : x ≡ number = ap (λ s. get_or order s 0) same ∙ ordered.ranked number low passing in
          let found : among x ≡ true =
          list_any_more (λ i. eqb i x) changed k 0 more
          ∙ ap (λ i. list_any (λ i. eqb i x) (take k changed) || eqb i x) (sym is)
          ∙ or_right (list_any (λ i. eqb i x) (take k changed)) (eqb number x) (eq-eqb number x (sym this)) in
          ap (λ s. get_or (set sums place value) s 0) same ∙ get_or-set_same sums place value 0 inside ∙ is_value ∙ ap has (sym this) ∙ ap (λ b. cond b (has x) (get_or old r 0)) (sym found))
          (λ (apart : r ≢ place).
          let other : number ≢ x = λ this. apart (sym (rank_of width arcs order ranks r ordered within) ∙ ap (λ i. get_or ranks i 0) (sym this)) in
          get_or-set_other sums place r value 0 apart ∙ are.put r within ∙ ap (λ b. cond b (has x) (get_or old r 0)) (among_same changed k number x more is other))
          (cases_eq r place);
    }

-- one more arc that passes through no window has no rank
pub put_same : (has : ℕ → ℕ) (width : ℕ) (arcs : List OuterArc) (order ranks changed old sums : List ℕ) (k number : ℕ) → ArePut has order (take k changed) old sums → IsOrder width arcs order ranks
    → k < length changed → number ≡ get_or changed k 0 → passes_some width (arc_at arcs number) ≡ false → ArePut has order (take (k + 1) changed) old sums
put_same has width arcs order ranks changed old sums k number are ordered more is outside = record {
  each_rank = are.each_rank;
  put = λ r within.
      let x : ℕ = get_or order r 0 in
      let other : number ≢ x = λ this.
      both_ways (passes_some width (arc_at arcs number)) outside (ap (λ i. passes_some width (arc_at arcs i)) this ∙ numbers_pass width arcs order ordered.all r 0 within) in
      are.put r within ∙ ap (λ b. cond b (has x) (get_or old r 0)) (among_same changed k number x more is other);
}

-- the numbers of all of them are put
pub put_all : (has : ℕ → ℕ) (order changed old sums : List ℕ) (k : ℕ) → ArePut has order (take k changed) old sums → length changed ≤ k → ArePut has order changed old sums
put_all has order changed old sums k are end = subst (λ xs. ArePut has order xs old sums) (take_all k changed end) are

-- an arc that passes has its weight put
pub weight_put : (cut : Cut) (arcs : List OuterArc) (number weight : ℕ) (passed : Bool) → arcs ≡ cut.whole.arcs → passed ≡ passes cut.width cut.number (arc_at arcs number) → passed ≡ true → weight ≡ (arc_at arcs number).weight
    → weight ≡ passing_weight cut number
weight_put cut arcs number weight passed same is passing weighs =
    weighs ∙ ap (λ xs. (arc_at xs number).weight) same ∙ ap (λ b. cond b (arc_at cut.whole.arcs number).weight 0) (sym passing ∙ is ∙ ap (λ xs. passes cut.width cut.number (arc_at xs number)) same)

-- and another 0
pub none_put : (cut : Cut) (arcs : List OuterArc) (number weight : ℕ) (passed : Bool) → arcs ≡ cut.whole.arcs → passed ≡ passes cut.width cut.number (arc_at arcs number) → passed ≡ false → weight ≡ 0
    → weight ≡ passing_weight cut number
none_put cut arcs number weight passed same is outside weighs =
    weighs ∙ ap (λ b. cond b (arc_at cut.whole.arcs number).weight 0) (sym outside ∙ is ∙ ap (λ xs. passes cut.width cut.number (arc_at xs number)) same)

-- and 1 is put for an arc that passes, and 0 for another
pub mark_put : (mark_of : Bool → ℕ) (cut : Cut) (arcs : List OuterArc) (number mark : ℕ) (passed : Bool) → mark_of true ≡ 1 → mark_of false ≡ 0 → arcs ≡ cut.whole.arcs → passed ≡ passes cut.width cut.number (arc_at arcs number) → mark ≡ mark_of passed
    → mark ≡ passing_mark cut number
mark_put mark_of cut arcs number mark passed one none same is marks = marks ∙ at passed ∙ ap (λ b. cond b 1 0) (is ∙ ap (λ xs. passes cut.width cut.number (arc_at xs number)) same)
  where
    at : (b : Bool) → mark_of b ≡ cond b 1 0
    at true = one
    at false = none
