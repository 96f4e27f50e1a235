-- The order of the intervals without a flag: how they are collected, and that the sorted list is in order of rank.
use Rattle.std.proofs.Common.{inl, inr, ◌≡◌, ℕ, suc, zero, ◌+◌, ◌<◌, ◌≤◌, ◌∙◌, sym, refl, ap, subst, Bool, true, false, ◌==◌, cond, nat_lt, List, [], ◌∷◌, ◌++◌, length, get_or, arith, ⊎_elim, All}
use Rattle.std.specs.Prelude.{count_by, ◌⊎◌, ◌&&◌, AllPairs}
use Rattle.std.specs.Cmp.{IsStrictWeakOrder}
use Rattle.std.specs.Ordering.{is_lt, nat_cmp}
use Rattle.std.specs.declared.cmp.Ordering.TheVariants.{Less, Equal, Greater}
use Rattle.std.specs.List.Sorted.{IsPermutation, IsSortedBy}
use Rattle.std.proofs.lemmas.Cmp.{on_total, nat_cmp_total}
use Rattle.std.proofs.lemmas.List.{get_or_past}
use Rattle.std.proofs.lemmas.List.Elements.{All-push}
use Rattle.std.proofs.lemmas.List.Sorted.{ranks_by, sorted_far, sum_by-IsPermutation, All-permutation}
use Rattle.std.proofs.lemmas.Bool.{cases_Bool, cases_lt, cases_order, cond_both, both_ways, and_from, or_left, or_right, lt-ltb, le-ltb, eq-eqb, ne_eqb}
use Rattle.std.proofs.lemmas.List.Sums.{sum_by-append, sum_by-cons, get_or-le-sum_by}
use Rattle.cache_model.specs.declared.intervals.Interval.{Interval}
use Rattle.cache_model.specs.Rounding.{rank, by_rank, by_start}
use Rattle.interval_maker.specs.Timelines.{no_interval}
use Rattle.schedule_round.specs.declared.order.Ranked.{Ranked}
use Rattle.schedule_round.specs.Ranks.{number_of, rank_of, interval_at, IsRankOrder}

-- the intervals without a flag of the first k are in the list once, with their ranks
pub record IsCollected (intervals : List Interval) (full : List Bool) (k : ℕ) (order : List Ranked) : Type 0 where
  pub once : (n : ℕ) → count_by (λ r. number_of r == n) order ≡ cond (nat_lt n k) (cond (get_or full n true) 0 1) 0
  pub ranks : All (λ r. rank_of r ≡ rank (interval_at intervals (number_of r))) order

-- what is counted of the first k intervals and the next one
counted_more : (full : List Bool) (k n : ℕ) → cond (nat_lt n (k + 1)) (cond (get_or full n true) 0 1) 0 ≡ cond (nat_lt n k) (cond (get_or full n true) 0 1) 0 + cond (k == n) (cond (get_or full k true) 0 1) 0
counted_more full k n =
    let at : ℕ = cond (get_or full n true) 0 1 in
    let own : ℕ = cond (get_or full k true) 0 1 in
    ⊎_elim
    (λ (same : n ≡ k).
    omega (
      arith,
      ap {B = ℕ} (λ b. cond b at 0) (lt-ltb n (k + 1) (omega arith)),
      ap {B = ℕ} (λ b. cond b at 0) (le-ltb n k (omega arith)),
      ap {B = ℕ} (λ b. cond b own 0) (eq-eqb k n (sym same)),
      ap {B = ℕ} (λ i. cond (get_or full i true) 0 1) same,
    ))
    (λ (other : (n < k) ⊎ (k < n)).
    ⊎_elim
    (λ (low : n < k).
    omega (
      arith,
      ap {B = ℕ} (λ b. cond b at 0) (lt-ltb n (k + 1) (omega arith)),
      ap {B = ℕ} (λ b. cond b at 0) (lt-ltb n k low),
      ap {B = ℕ} (λ b. cond b own 0) (ne_eqb k n (λ e. omega arith)),
    ))
    (λ (high : k < n).
    omega (
      arith,
      ap {B = ℕ} (λ b. cond b at 0) (le-ltb n (k + 1) (omega arith)),
      ap {B = ℕ} (λ b. cond b at 0) (le-ltb n k (omega arith)),
      ap {B = ℕ} (λ b. cond b own 0) (ne_eqb k n (λ e. omega arith)),
    ))
    other)
    (cases_order n k)

-- the next interval has a flag
pub collected_flagged : (intervals : List Interval) (full : List Bool) (k : ℕ) (before after : List Ranked) → get_or full k true ≡ true → after ≡ before → IsCollected intervals full k before
    → IsCollected intervals full (k + 1) after
collected_flagged intervals full k before after flagged same done = record {
  once = λ n.
      let none : cond {A = ℕ} (k == n) (cond (get_or full k true) 0 1) 0 ≡ 0 = ⊎_elim (λ (e : (k == n) ≡ true). ap {B = ℕ} (λ b. cond b (cond (get_or full k true) 0 1) 0) e ∙ ap {B = ℕ} (λ b. cond b 0 1) flagged) (λ (e : (k == n) ≡ false). ap {B = ℕ} (λ b. cond b (cond (get_or full k true) 0 1) 0) e) (cases_Bool (k == n)) in
      ap (λ xs. count_by (λ r. number_of r == n) xs) same ∙ omega (arith, done.once n, counted_more full k n, none);
  ranks = subst (All (λ r. rank_of r ≡ rank (interval_at intervals (number_of r)))) (sym same) done.ranks;
}

-- the next interval has none
pub collected_next : (intervals : List Interval) (full : List Bool) (k : ℕ) (before after : List Ranked) (next : Ranked) → get_or full k true ≡ false → number_of next ≡ k → rank_of next ≡ rank (interval_at intervals k)
    → after ≡ before ++ next ∷ [] → IsCollected intervals full k before → IsCollected intervals full (k + 1) after
collected_next intervals full k before after next unflagged number is_rank more done = record {
  once = λ n.
      let one : cond {A = ℕ} (k == n) (cond (get_or full k true) 0 1) 0 ≡ cond (k == n) 1 0 = ap {B = ℕ} (λ b. cond (k == n) (cond b 0 1) 0) unflagged in
      let last : count_by (λ r. number_of r == n) (next ∷ []) ≡ cond (k == n) 1 0 = omega (arith, ap {B = ℕ} (λ m. cond (m == n) 1 0) number) in
      ap (λ xs. count_by (λ r. number_of r == n) xs) more
      ∙ omega (arith, sum_by-append (λ (r : Ranked). cond (number_of r == n) 1 0) before (next ∷ []), done.once n, counted_more full k n, one, last);
  ranks = subst (All (λ r. rank_of r ≡ rank (interval_at intervals (number_of r)))) (sym more)
      (All-push (λ r. rank_of r ≡ rank (interval_at intervals (number_of r))) before next done.ranks (is_rank ∙ ap (λ n. rank (interval_at intervals n)) (sym number)));
}

-- the element at each of two places is counted
count_two : {X : Type 0} (p : X → Bool) (xs : List X) (i j : ℕ) (d : X) → i < j → j < length xs → p (get_or xs i d) ≡ true → p (get_or xs j d) ≡ true → 2 ≤ count_by p xs
count_two p [] i j d before low here there = absurd (omega arith)
count_two p (x ∷ xs) zero (suc j) d before low here there =
    let later : cond (p (get_or xs j d)) 1 0 ≤ count_by p xs = get_or-le-sum_by (λ y. cond (p y) 1 0) xs j d (omega arith) in
    omega (arith, sum_by-cons (λ y. cond (p y) 1 0) x xs, ap {B = ℕ} (λ b. cond b 1 0) here, ap {B = ℕ} (λ b. cond b 1 0) there, later)
count_two p (x ∷ xs) (suc i) (suc j) d before low here there = omega (arith, sum_by-cons (λ y. cond (p y) 1 0) x xs, count_two p xs i j d (omega arith) (omega arith) here there)
count_two p (x ∷ xs) i zero d before low here there = absurd (omega arith)

-- the order of the sort: by key
abbrev before : Ranked → Ranked → Bool
before x y = is_lt (nat_cmp x.key y.key)

before_order : IsStrictWeakOrder before
before_order = ranks_by (on_total (λ (r : Ranked). r.key) nat_cmp_total) (λ (r : Ranked). r)

-- where the second is not before the first, the first ranks below it, or they tie and the first has no greater number
in_order : (x y : Ranked) → before y x ≡ false → (rank_of x < rank_of y) ⊎ ((rank_of x ≡ rank_of y) × (number_of x ≤ number_of y))
in_order x y fails =
    ⊎_elim
    (λ (less : y.key < x.key).
    let yes : is_lt (nat_cmp y.key x.key) ≡ true = ap (λ (s : Bool). is_lt (cond s Less (cond (y.key == x.key) Equal Greater))) (lt-ltb y.key x.key less) in
    absurd (both_ways (is_lt (nat_cmp y.key x.key)) fails yes))
    (λ (up : x.key ≤ y.key).
    ⊎_elim
    (λ (below : rank_of x < rank_of y). inl below)
    (λ (level : rank_of y ≤ rank_of x). inr (omega arith, omega arith))
    (cases_lt (rank_of x) (rank_of y)))
    (cases_lt y.key x.key)

-- what is counted stands somewhere
pub counted : {X : Type 0} (p : X → Bool) (xs : List X) (d : X) → 0 < count_by p xs → (k : ℕ) × (k < length xs) × (p (get_or xs k d) ≡ true)
counted p [] d some = absurd (omega arith)
counted p (x ∷ xs) d some =
    ⊎_elim
    (λ (here : p x ≡ true). (0, omega arith, here))
    (λ (not_here : p x ≡ false).
    let later = counted p xs d (omega (arith, sum_by-cons (λ y. cond (p y) 1 0) x xs, ap {B = ℕ} (λ b. cond b 1 0) not_here)) in
    (suc later.0, omega (arith, later.1), later.2))
    (cases_Bool (p x))

module _ (intervals : List Interval) (full : List Bool) (each : length full ≡ length intervals) where
  -- an interval stands in the list where it has no flag, once
  flag_count : (k n : ℕ) (order : List Ranked) → IsCollected intervals full k order → length intervals ≤ k → count_by (λ r. number_of r == n) order ≡ cond (get_or full n true) 0 1
  flag_count k n order done all =
      ⊎_elim
      (λ (low : n < k). done.once n ∙ ap (λ b. cond b (cond (get_or full n true) 0 1) 0) (lt-ltb n k low))
      (λ (past : k ≤ n). done.once n ∙ ap (λ b. cond b (cond (get_or full n true) 0 1) 0) (le-ltb n k past) ∙ sym (ap {B = ℕ} (λ b. cond b 0 1) (get_or_past full n true (omega arith))))
      (cases_lt n k)

  -- the list, once it is sorted
  pub rank_order : (k : ℕ) (collected order : List Ranked) → IsCollected intervals full k collected → length intervals ≤ k → AllPairs (λ i j. i.start < j.start) intervals
      → IsPermutation collected order → IsSortedBy before order → IsRankOrder intervals full order
  rank_order k collected order done all starts moved sorted = record {
    once = λ n. once n;
    ascending = λ i j d low high. ascending i j d low high;
  }
    where
      once : (n : ℕ) → count_by (λ r. number_of r == n) order ≡ cond (get_or full n true) 0 1
      once n = sum_by-IsPermutation (λ (r : Ranked). cond (number_of r == n) 1 0) collected order moved ∙ flag_count k n collected done all

      ranks : All (λ (r : Ranked). rank_of r ≡ rank (interval_at intervals (number_of r))) order
      ranks = All-permutation (λ (r : Ranked). rank_of r ≡ rank (interval_at intervals (number_of r))) collected order moved done.ranks

      -- no number stands twice
      differ : (i j : ℕ) (d : Ranked) → i < j → j < length order → (number_of (get_or order i d)) ≡ (number_of (get_or order j d)) → ⊥
      differ i j d low high same =
          let n : ℕ = (number_of (get_or order j d)) in
          let two : 2 ≤ count_by (λ (r : Ranked). number_of r == n) order = count_two (λ (r : Ranked). number_of r == n) order i j d low high (eq-eqb (number_of (get_or order i d)) n same) (eq-eqb n n refl) in
          cond_both (get_or full n true) 0 1 (λ c. count_by (λ (r : Ranked). number_of r == n) order ≡ c → ⊥) (λ _ e. omega arith) (λ _ e. omega arith) (once n)

      within : (i : ℕ) (d : Ranked) → i < length order → (number_of (get_or order i d)) < length intervals
      within i d low =
          let n : ℕ = (number_of (get_or order i d)) in
          let one : 1 ≤ count_by (λ (r : Ranked). number_of r == n) order =
          omega (arith, ap {B = ℕ} (λ b. cond b 1 0) (eq-eqb n n refl), get_or-le-sum_by (λ (r : Ranked). cond (number_of r == n) 1 0) order i d low) in
          ⊎_elim
          (λ (in_list : n < length intervals). in_list)
          (λ (past : length intervals ≤ n). absurd (omega (arith, once n, ap {B = ℕ} (λ b. cond b 0 1) (get_or_past full n true (omega arith)))))
          (cases_lt n (length intervals))

      ascending : (i j : ℕ) (d : Ranked) → i < j → j < length order → by_rank (interval_at intervals (number_of (get_or order i d))) (interval_at intervals (number_of (get_or order j d))) ≡ true
      ascending i j d low high =
          let x : Ranked = get_or order i d in
          let y : Ranked = get_or order j d in
          let a : ℕ = rank (interval_at intervals (number_of x)) in
          let b : ℕ = rank (interval_at intervals (number_of y)) in
          let x_is : rank_of x ≡ a = ranks i d (omega arith) in
          let y_is : rank_of y ≡ b = ranks j d high in
          ⊎_elim
          (λ (less : rank_of x < rank_of y). or_left (nat_lt a b) ((a == b) && by_start (interval_at intervals (number_of x)) (interval_at intervals (number_of y))) (lt-ltb a b (omega arith)))
          (λ (tie : (rank_of x ≡ rank_of y) × (number_of x ≤ number_of y)).
          let up : number_of x < number_of y = let apart = differ i j d low high in omega arith in
          or_right (nat_lt a b) ((a == b) && by_start (interval_at intervals (number_of x)) (interval_at intervals (number_of y)))
          (and_from (a == b) (by_start (interval_at intervals (number_of x)) (interval_at intervals (number_of y))) (eq-eqb a b (omega (arith, tie.0)))
          (lt-ltb (interval_at intervals (number_of x)).start (interval_at intervals (number_of y)).start (starts (number_of x) (number_of y) no_interval up (within j d high)))))
          (in_order x y (sorted_far before before_order order sorted i j d (omega arith) high))
