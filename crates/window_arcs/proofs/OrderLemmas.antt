-- The order of the arcs that pass through some window: how they are collected and sorted, and how the rank of each is noted.
use Rattle.std.proofs.Common.{◌≡◌, ◌≢◌, ◌∙◌, ℕ, ◌+◌, ◌-◌, ◌<◌, ◌≤◌, ◌^◌, ap, sym, refl, subst, Bool, true, false, cond, arith, List, [], ◌∷◌, ◌++◌, length, get_or, set, map, filter, append-nil, length-set, All, ⊎_elim}
use Rattle.std.specs.List.{range_with_len, Contains}
use Rattle.std.specs.List.Sorted.{IsPermutation, IsNonDecreasingBy}
use Rattle.std.proofs.lemmas.Bool.{cases_eq}
use Rattle.std.proofs.lemmas.List.{get_or-map, get_or-set_other, get_or-set_same, length-map, map-id, map_push}
use Rattle.std.proofs.lemmas.List.Elements.{All-push, All-nil, at_from_Contains, filter-append, filter_passes}
use Rattle.std.proofs.lemmas.List.FromFn.{length-range_with_len, map-range_with_len_more}
use Rattle.std.proofs.lemmas.List.Sorted.{All-permutation, Contains-permutation, IsPermutation-map, length_permutation}
use Rattle.std.proofs.lemmas.List.Sums.{count_by-le-length, length-filter}
use Rattle.cache_model.proofs.Keeps.{All-filter_range, Contains-filter_range}
use Rattle.flow_model.specs.declared.arcs.OuterArc.{OuterArc}
use Rattle.flow_model.specs.Instances.{arc_at}
use Rattle.window_arcs.specs.declared.order.Ranked.{Ranked}
use Rattle.window_arcs.specs.Passing.{IsOrder, passes_some, ranked_numbers, whole_share}
use Rattle.window_arcs.specs.Ranks.{AreOrdered, AreRanksOf}

-- how far what a window of the arc costs is below the greatest number
abbrev pub IsBelow : ℕ → List OuterArc → Ranked → Type 0
IsBelow width arcs r = r.below + whole_share width (arc_at arcs r.number) ≡ 2 ^ 128 - 1

-- those of the first k arcs are in the list that pass through some window
pub record AreCollected (width : ℕ) (arcs : List OuterArc) (k : ℕ) (ranked : List Ranked) : Type 0 where
  pub numbers : map (λ (r : Ranked). r.number) ranked ≡ filter (λ i. passes_some width (arc_at arcs i)) (range_with_len 0 k)
  pub costs : All (IsBelow width arcs) ranked

pub collected_none : (width : ℕ) (arcs : List OuterArc) → AreCollected width arcs 0 []
collected_none width arcs = record { numbers = refl; costs = All-nil (IsBelow width arcs) }

-- one more number
range_more : (k : ℕ) → range_with_len 0 (k + 1) ≡ range_with_len 0 k ++ k ∷ []
range_more k =
    sym (map-id (range_with_len 0 (k + 1)))
    ∙ map-range_with_len_more (λ (i : ℕ). i) 0 k k (omega arith)
    ∙ ap (λ xs. xs ++ k ∷ []) (map-id (range_with_len 0 k))

filter-range_more : (p : ℕ → Bool) (k : ℕ) → filter p (range_with_len 0 (k + 1)) ≡ filter p (range_with_len 0 k) ++ cond (p k) (k ∷ []) []
filter-range_more p k = ap (filter p) (range_more k) ∙ filter-append p (range_with_len 0 k) (k ∷ [])

-- with one more arc, if it passes through some window
pub collected_more : (width : ℕ) (arcs : List OuterArc) (k share : ℕ) (ranked : List Ranked) → AreCollected width arcs k ranked → passes_some width (arc_at arcs k) ≡ true → share < 2 ^ 128 → share ≡ whole_share width (arc_at arcs k)
    → AreCollected width arcs (k + 1) (ranked ++ record { below = 2 ^ 128 - 1 - share; number = k } ∷ [])
collected_more width arcs k share ranked collected passing fits is =
    let next : Ranked = record { below = 2 ^ 128 - 1 - share; number = k } in
    let p : ℕ → Bool = λ i. passes_some width (arc_at arcs i) in
    let before : List ℕ = filter p (range_with_len 0 k) in
    record {
      numbers = map_push (λ (r : Ranked). r.number) ranked next ∙ ap (λ xs. xs ++ k ∷ []) collected.numbers ∙ sym (filter-range_more p k ∙ ap (λ (b : Bool). before ++ cond b (k ∷ []) []) passing);
      costs = All-push (IsBelow width arcs) ranked next collected.costs (omega (arith, is, fits));
    }

-- and without it, if it passes through none
pub collected_same : (width : ℕ) (arcs : List OuterArc) (k : ℕ) (ranked : List Ranked) → AreCollected width arcs k ranked → passes_some width (arc_at arcs k) ≡ false → AreCollected width arcs (k + 1) ranked
collected_same width arcs k ranked collected outside =
    let p : ℕ → Bool = λ i. passes_some width (arc_at arcs i) in
    let before : List ℕ = filter p (range_with_len 0 k) in
    record {
      numbers = collected.numbers ∙ sym (filter-range_more p k ∙ ap (λ (b : Bool). before ++ cond b (k ∷ []) []) outside ∙ append-nil before);
      costs = collected.costs;
    }

-- the list of all of them, once it is sorted
pub ordered : (width k : ℕ) (arcs : List OuterArc) (collected sorted : List Ranked) → AreCollected width arcs k collected → k ≡ length arcs → length arcs ≤ 2 ^ 26 → IsPermutation collected sorted → IsNonDecreasingBy (λ (r : Ranked). r.below) sorted
    → AreOrdered width arcs (map (λ (r : Ranked). r.number) sorted)
ordered width k arcs collected sorted are all few moved rising =
    let same : map (λ (r : Ranked). r.number) collected ≡ ranked_numbers width arcs = are.numbers ∙ ap (λ n. filter (λ i. passes_some width (arc_at arcs i)) (range_with_len 0 n)) all in
    let long : length (map (λ (r : Ranked). r.number) sorted) ≡ length sorted = length-map sorted (λ (r : Ranked). r.number) in
    let costs : All (IsBelow width arcs) sorted = All-permutation (IsBelow width arcs) collected sorted moved are.costs in
    record {
      few = few;
      all = subst (λ xs. IsPermutation xs (map (λ (r : Ranked). r.number) sorted)) same (IsPermutation-map (λ (r : Ranked). r.number) collected sorted moved);
      falling = λ r s up within.
          let none : Ranked = record { below = 0; number = 0 } in
          let share : ℕ → ℕ = λ i. whole_share width (arc_at arcs i) in
          omega (
            arith,
            rising r s none up (omega (arith, long, within)),
            costs r none (omega (arith, long, within)),
            costs s none (omega (arith, long, within)),
            ap share (get_or-map (λ (x : Ranked). x.number) sorted r none 0 (omega (arith, long, within))),
            ap share (get_or-map (λ (x : Ranked). x.number) sorted s none 0 (omega (arith, long, within))),
          );
    }

-- the numbers of an order
module _ (width : ℕ) (arcs : List OuterArc) (numbers : List ℕ) (all : IsPermutation (ranked_numbers width arcs) numbers) where
  abbrev test : ℕ → Bool
  test i = passes_some width (arc_at arcs i)

  -- they are no more than the arcs
  pub numbers_few : length numbers ≤ length arcs
  numbers_few =
      let range : List ℕ = range_with_len 0 (length arcs) in
      omega (arith, length_permutation (ranked_numbers width arcs) numbers all, length-filter test range, count_by-le-length test range, length-range_with_len 0 (length arcs))

  -- each is that of an arc
  pub numbers_within : All (λ i. i < length arcs) numbers
  numbers_within = All-permutation (λ i. i < length arcs) (ranked_numbers width arcs) numbers all (All-filter_range (λ i. i < length arcs) test 0 (length arcs) (λ i low high passing. omega arith))

  -- that passes through some window
  pub numbers_pass : All (λ i. passes_some width (arc_at arcs i) ≡ true) numbers
  numbers_pass = All-permutation (λ i. test i ≡ true) (ranked_numbers width arcs) numbers all (filter_passes test (range_with_len 0 (length arcs)))

  -- and each such arc has a place
  place : (i : ℕ) → i < length arcs → test i ≡ true → (r : ℕ) × (r < length numbers) × (get_or numbers r 0 ≡ i)
  place i low passing =
      let there : Contains (ranked_numbers width arcs) i = subst (λ xs. Contains xs i) (map-id (ranked_numbers width arcs)) (Contains-filter_range (λ (j : ℕ). j) test i 0 (length arcs) (omega arith) (omega (arith, low)) passing) in
      let found = at_from_Contains numbers i (Contains-permutation (ranked_numbers width arcs) numbers i all there) in (found.0, found.1, found.2 0)

-- the same numbers are those of so many arcs
pub order-numbers : (width : ℕ) (arcs : List OuterArc) (order numbers : List ℕ) (count : ℕ) → AreOrdered width arcs order → numbers ≡ order → count ≡ length arcs → All (λ i. i < count) numbers
order-numbers width arcs order numbers count ordered is many =
    subst (All (λ i. i < count)) (sym is) (subst (λ n. All (λ i. i < n) order) (sym many) (numbers_within width arcs order ordered.all))

-- the numbers with their ranks
pub order-ranked : (width : ℕ) (arcs : List OuterArc) (order numbers ranks : List ℕ) (count : ℕ) → AreOrdered width arcs order → numbers ≡ order → count ≡ length arcs → AreRanksOf count numbers ranks → IsOrder width arcs order ranks
order-ranked width arcs order numbers ranks count ordered is many are =
    let ranked : AreRanksOf count order ranks = subst (λ xs. AreRanksOf count xs ranks) is are in
    record {
      all = ordered.all;
      each_arc = ranked.each ∙ many;
      ranks_within = λ i low passing. let at = place width arcs order ordered.all i low passing in subst (λ m. get_or ranks m 0 < length order) at.2 (ranked.within at.0 at.1);
      ranked = λ i low passing. let at = place width arcs order ordered.all i low passing in subst (λ m. get_or order (get_or ranks m 0) 0 ≡ m) at.2 (ranked.ranked at.0 at.1);
      falling = ordered.falling;
    }

-- the ranks of the first numbers are noted
pub record AreNoted (arcs : ℕ) (numbers : List ℕ) (rank : ℕ) (ranks : List ℕ) : Type 0 where
  pub each : length ranks ≡ arcs
  pub within : (r : ℕ) → r < rank → get_or ranks (get_or numbers r 0) 0 < length numbers
  pub ranked : (r : ℕ) → r < rank → get_or numbers (get_or ranks (get_or numbers r 0) 0) 0 ≡ get_or numbers r 0

-- the rank of one more number is noted
pub noted_more : (arcs : ℕ) (numbers ranks : List ℕ) (rank number : ℕ) → AreNoted arcs numbers rank ranks → All (λ i. i < arcs) numbers → rank < length numbers → number ≡ get_or numbers rank 0
    → AreNoted arcs numbers (rank + 1) (set ranks number rank)
noted_more arcs numbers ranks rank number noted all low is =
    let new : List ℕ = set ranks number rank in
    let inside : number < length ranks = omega (arith, is, all rank 0 low, noted.each) in
    let here : (r : ℕ) → get_or numbers r 0 ≡ number → get_or new (get_or numbers r 0) 0 ≡ rank = λ r same. ap (λ m. get_or new m 0) same ∙ get_or-set_same ranks number rank 0 inside in
    let other : (r : ℕ) → get_or numbers r 0 ≢ number → get_or new (get_or numbers r 0) 0 ≡ get_or ranks (get_or numbers r 0) 0 = λ r apart. get_or-set_other ranks number (get_or numbers r 0) rank 0 apart in
    let before : (r : ℕ) → r < rank + 1 → get_or numbers r 0 ≢ number → r < rank =
    λ r less apart. ⊎_elim (λ (e : r ≡ rank). absurd (apart (ap (λ m. get_or numbers m 0) e ∙ sym is))) (λ (n : r ≢ rank). omega arith) (cases_eq r rank) in
    record {
      each = length-set ranks number rank ∙ noted.each;
      within = λ r less.
          ⊎_elim (λ (same : get_or numbers r 0 ≡ number). omega (arith, here r same, low))
          (λ (apart : get_or numbers r 0 ≢ number). omega (arith, other r apart, noted.within r (before r less apart)))
          (cases_eq (get_or numbers r 0) number);
      ranked = λ r less.
          ⊎_elim (λ (same : get_or numbers r 0 ≡ number). ap (λ m. get_or numbers m 0) (here r same) ∙ sym is ∙ sym same)
          (λ (apart : get_or numbers r 0 ≢ number). ap (λ m. get_or numbers m 0) (other r apart) ∙ noted.ranked r (before r less apart))
          (cases_eq (get_or numbers r 0) number);
    }

-- all ranks are noted
pub noted_all : (arcs : ℕ) (numbers ranks : List ℕ) (rank : ℕ) → AreNoted arcs numbers rank ranks → length numbers ≤ rank → AreRanksOf arcs numbers ranks
noted_all arcs numbers ranks rank noted end = record {
  each = noted.each;
  within = λ r low. noted.within r (omega (arith, low, end));
  ranked = λ r low. noted.ranked r (omega (arith, low, end));
}
