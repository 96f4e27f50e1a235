-- One more request at the end of a trace: at most one interval ends there.
use Rattle.std.proofs.Common.{◌≡◌, ◌≢◌, ℕ, suc, zero, ◌+◌, ◌-◌, ◌<◌, ◌≤◌, ◌∙◌, sym, refl, ap, Bool, true, false, not, ◌&&◌, cond, nat_lt, nat_le, List, [], ◌∷◌, ◌++◌, length, arith, ⊎_elim, sum_by, filter, take, drop, slice_range}
use Rattle.std.specs.List.{range_with_len, list_any}
use Rattle.std.proofs.Math.Seq.{get_or-append_seam}
use Rattle.std.proofs.lemmas.Bool.{cases_eq, cases_lt, cases_Bool, lt-ltb, and_left, and_right}
use Rattle.std.proofs.lemmas.List.{get_or_append_left, take-append-le, drop-append-le, length-append, length-drop}
use Rattle.std.proofs.lemmas.List.Sums.{sum_by-cons, sum_by_push}
use Rattle.cache_model.specs.declared.objects.Object.{Object}
use Rattle.cache_model.specs.declared.intervals.Interval.{Interval}
use Rattle.cache_model.specs.Claim.{Terms, counts, same_object, gain_of, request_at, no_object}
use Rattle.cache_model.specs.Objects.{IsLatest}
use Rattle.cache_model.specs.Intervals.{is_eligible, interval_of, eligible_from, eligible_intervals}
use Rattle.cache_model.proofs.Duality.{same_object-true, same_object-refl}
use Rattle.cache_model.proofs.Sums.{sum_by-map, sum_by-filter, sum_by-flat_map}
use Rattle.cache_model.proofs.Eligible.{range-suc, eligible_from_last, list_any-range_false, list_any-range_true}
use Rattle.cache_model.proofs.Pairs.{same_object-sym}

-- two sums over a range whose terms agree, but for one more
pub sum_by-range_agree : (f g : ℕ → ℕ) (a n : ℕ) → ((k : ℕ) → a ≤ k → k < a + n → f k ≡ g k) → sum_by f (range_with_len a n) ≡ sum_by g (range_with_len a n)
sum_by-range_agree f g a zero same = refl
sum_by-range_agree f g a (suc n) same =
    omega (
      arith,
      sum_by-cons f a (range_with_len (a + 1) n),
      sum_by-cons g a (range_with_len (a + 1) n),
      same a (omega arith) (omega arith),
      sum_by-range_agree f g (a + 1) n (λ k low high. same k (omega arith) (omega arith)),
    )

pub sum_by-range_one : (f g : ℕ → ℕ) (b extra a n : ℕ) → a ≤ b → b < a + n → f b ≡ g b + extra → ((k : ℕ) → a ≤ k → k < a + n → k ≢ b → f k ≡ g k)
    → sum_by f (range_with_len a n) ≡ sum_by g (range_with_len a n) + extra
sum_by-range_one f g b extra a zero low high one same = absurd (omega arith)
sum_by-range_one f g b extra a (suc n) low high one same =
    ⊎_elim
    (λ (e : a ≡ b). omega (
      arith,
      sum_by-cons f a (range_with_len (a + 1) n),
      sum_by-cons g a (range_with_len (a + 1) n),
      ap f e,
      ap g e,
      sum_by-range_agree f g (a + 1) n (λ k l h. same k (omega arith) (omega arith) (λ e'. omega arith)),
    ))
    (λ (ne : a ≢ b). omega (
      arith,
      sum_by-cons f a (range_with_len (a + 1) n),
      sum_by-cons g a (range_with_len (a + 1) n),
      same a (omega arith) (omega arith) ne,
      sum_by-range_one f g b extra (a + 1) n (omega arith) (omega arith) one (λ k l h other. same k (omega arith) (omega arith) other),
    ))
    (cases_eq a b)

-- the sum of f over the eligible intervals, pair by pair
pair_sum : (Interval → ℕ) → Terms → List Object → ℕ → ℕ → ℕ
pair_sum f terms trace a b = cond (is_eligible terms trace a b) (f (interval_of terms.objective trace a b)) 0

from_sum : (f : Interval → ℕ) (terms : Terms) (trace : List Object) (a : ℕ)
    → sum_by f (eligible_from terms trace a) ≡ sum_by (pair_sum f terms trace a) (range_with_len 0 (length trace))
unfolding pair_sum
from_sum f terms trace a =
    let requests : List ℕ = range_with_len 0 (length trace) in
    sum_by-map f (interval_of terms.objective trace a) (filter (is_eligible terms trace a) requests)
    ∙ sum_by-filter (λ b. f (interval_of terms.objective trace a b)) (is_eligible terms trace a) requests

pub sum_by-range_last : (f : ℕ → ℕ) (n : ℕ) → sum_by f (range_with_len 0 (suc n)) ≡ sum_by f (range_with_len 0 n) + f n
sum_by-range_last f n = ap (sum_by f) (range-suc 0 n n (omega arith)) ∙ sum_by_push f (range_with_len 0 n) n

pub slice_range-append : {X : Type 0} (xs : List X) (y : X) (i j : ℕ) → i ≤ length xs → j ≤ length xs → slice_range (xs ++ y ∷ []) i j ≡ slice_range xs i j
slice_range-append xs y i j low high =
    ap (take (j - i)) (drop-append-le i xs (y ∷ []) low) ∙ take-append-le (j - i) (drop i xs) (y ∷ []) (omega (arith, length-drop i xs))

module _ (f : Interval → ℕ) (terms : Terms) (trace : List Object) (x : Object) where
  earlier_pair : (a b : ℕ) → a < length trace → b < length trace → pair_sum f terms (trace ++ x ∷ []) a b ≡ pair_sum f terms trace a b
  unfolding pair_sum
  earlier_pair a b la lb =
      let F : Object → Object → List Object → ℕ = λ y z between.
      cond (nat_lt a b && same_object y z && not (list_any (same_object y) between) && nat_le y.size terms.capacity && counts terms b)
      (f (record { start = a; end = b; size = y.size; gain = gain_of terms.objective z })) 0 in
      let s : List Object = slice_range (trace ++ x ∷ []) (a + 1) b in
      ap (λ y. F y (request_at (trace ++ x ∷ []) b) s) (get_or_append_left trace (x ∷ []) no_object a la)
      ∙ ap (λ z. F (request_at trace a) z s) (get_or_append_left trace (x ∷ []) no_object b lb)
      ∙ ap (F (request_at trace a) (request_at trace b)) (slice_range-append trace x (a + 1) b (omega arith) (omega arith))

  n : ℕ
  n = length trace

  size_more : length (trace ++ x ∷ []) ≡ suc (length trace)
  size_more = omega (arith, length-append trace (x ∷ []))

  earlier_row : (a : ℕ) → a < length trace
      → sum_by f (eligible_from terms (trace ++ x ∷ []) a) ≡ sum_by f (eligible_from terms trace a) + pair_sum f terms (trace ++ x ∷ []) a (length trace)
  earlier_row a la =
      let g : ℕ → ℕ = pair_sum f terms (trace ++ x ∷ []) a in
      let prefix : sum_by g (range_with_len 0 (length trace)) ≡ sum_by f (eligible_from terms trace a) =
      sum_by-range_agree g (pair_sum f terms trace a) 0 (length trace) (λ b low high. earlier_pair a b la (omega arith)) ∙ sym (from_sum f terms trace a) in
      from_sum f terms (trace ++ x ∷ []) a ∙ ap (λ k. sum_by g (range_with_len 0 k)) size_more ∙ sum_by-range_last g (length trace)
      ∙ ap (λ k. k + g (length trace)) prefix

  last_row : sum_by f (eligible_from terms (trace ++ x ∷ []) (length trace)) ≡ 0
  last_row = ap (sum_by f) (eligible_from_last terms (trace ++ x ∷ []) (length trace) (λ k low high. absurd (omega (arith, size_more))))

  rows : sum_by f (eligible_intervals terms (trace ++ x ∷ []))
      ≡ sum_by (λ a. sum_by f (eligible_from terms (trace ++ x ∷ []) a)) (range_with_len 0 (length trace))
  rows =
      let row : ℕ → ℕ = λ a. sum_by f (eligible_from terms (trace ++ x ∷ []) a) in
      sum_by-flat_map f (eligible_from terms (trace ++ x ∷ [])) (range_with_len 0 (length (trace ++ x ∷ [])))
      ∙ ap (λ k. sum_by row (range_with_len 0 k)) size_more ∙ sum_by-range_last row (length trace)
      ∙ omega (arith, last_row)

  last_object : request_at (trace ++ x ∷ []) (length trace) ≡ x
  last_object = get_or-append_seam trace x [] no_object

  other_object : (a : ℕ) → a < length trace → same_object x (request_at trace a) ≡ false → pair_sum f terms (trace ++ x ∷ []) a (length trace) ≡ 0
  unfolding pair_sum
  other_object a la differs =
      let ts : List Object = trace ++ x ∷ [] in
      let e : same_object (request_at ts a) (request_at ts (length trace)) ≡ false =
      ap (λ y. same_object y (request_at ts (length trace))) (get_or_append_left trace (x ∷ []) no_object a la)
      ∙ ap (same_object (request_at trace a)) last_object ∙ same_object-sym (request_at trace a) x ∙ differs in
      ap (λ t. cond t (f (interval_of terms.objective ts a (length trace))) 0) (and_left _ _ (and_left _ _ (and_left _ _ (and_right _ _ e))))

  asked_again : (a b : ℕ) → a < b → b < length trace → same_object (request_at trace a) (request_at trace b) ≡ true → pair_sum f terms (trace ++ x ∷ []) a (length trace) ≡ 0
  unfolding pair_sum
  asked_again a b ab lb again =
      let ts : List Object = trace ++ x ∷ [] in
      let e : same_object (request_at ts a) (request_at ts b) ≡ true =
      ap (λ y. same_object y (request_at ts b)) (get_or_append_left trace (x ∷ []) no_object a (omega arith))
      ∙ ap (same_object (request_at trace a)) (get_or_append_left trace (x ∷ []) no_object b lb) ∙ again in
      ap (λ t. cond t (f (interval_of terms.objective ts a (length trace))) 0)
      (and_left _ _ (and_left _ _ (and_right _ _ (ap not (list_any-range_true (same_object (request_at ts a)) ts no_object (a + 1) (length trace) b (omega arith) lb (omega (arith, size_more)) e)))))

  latest_pair : (a : ℕ) → IsLatest trace x a → pair_sum f terms (trace ++ x ∷ []) a (length trace) ≡ cond (nat_le x.size terms.capacity && counts terms (length trace)) (f (interval_of terms.objective (trace ++ x ∷ []) a (length trace))) 0
  unfolding pair_sum
  latest_pair a l =
      let ts : List Object = trace ++ x ∷ [] in
      let value : ℕ = f (interval_of terms.objective ts a (length trace)) in
      let here : request_at ts a ≡ x = get_or_append_left trace (x ∷ []) no_object a l.within ∙ sym (same_object-true x (request_at trace a) l.same) in
      let same : same_object (request_at ts a) (request_at ts (length trace)) ≡ true =
      ap (λ y. same_object y (request_at ts (length trace))) here ∙ ap (same_object x) last_object ∙ same_object-refl x in
      let none : list_any (same_object (request_at ts a)) (slice_range ts (a + 1) (length trace)) ≡ false =
      ap (λ y. list_any (same_object y) (slice_range ts (a + 1) (length trace))) here
      ∙ list_any-range_false (same_object x) ts no_object (a + 1) (length trace) (omega (arith, size_more))
      (λ k low high. ap (same_object x) (get_or_append_left trace (x ∷ []) no_object k high) ∙ l.others k (omega arith) high) in
      let F : Bool → Bool → Bool → Object → ℕ = λ s t u y. cond (s && t && not u && nat_le y.size terms.capacity && counts terms (length trace)) value 0 in
      ap (λ s. F s (same_object (request_at ts a) (request_at ts (length trace))) (list_any (same_object (request_at ts a)) (slice_range ts (a + 1) (length trace))) (request_at ts a)) (lt-ltb a (length trace) l.within)
      ∙ ap (λ t. F true t (list_any (same_object (request_at ts a)) (slice_range ts (a + 1) (length trace))) (request_at ts a)) same
      ∙ ap (λ u. F true true u (request_at ts a)) none
      ∙ ap (F true true false) here

  pub eligible_push_first : ((k : ℕ) → k < length trace → same_object x (request_at trace k) ≡ false)
      → sum_by f (eligible_intervals terms (trace ++ x ∷ [])) ≡ sum_by f (eligible_intervals terms trace)
  eligible_push_first new =
      rows
      ∙ sum_by-range_agree (λ a. sum_by f (eligible_from terms (trace ++ x ∷ []) a)) (λ a. sum_by f (eligible_from terms trace a)) 0 (length trace)
      (λ a low high. omega (arith, earlier_row a (omega arith), other_object a (omega arith) (new a (omega arith))))
      ∙ sym (sum_by-flat_map f (eligible_from terms trace) (range_with_len 0 (length trace)))

  pub eligible_push_again : (a : ℕ) → IsLatest trace x a
      → sum_by f (eligible_intervals terms (trace ++ x ∷ []))
      ≡ sum_by f (eligible_intervals terms trace) + cond (nat_le x.size terms.capacity && counts terms (length trace)) (f (interval_of terms.objective (trace ++ x ∷ []) a (length trace))) 0
  eligible_push_again a l =
      let before : ℕ → ℕ = λ k. sum_by f (eligible_from terms trace k) in
      let value : ℕ = cond (nat_le x.size terms.capacity && counts terms (length trace)) (f (interval_of terms.objective (trace ++ x ∷ []) a (length trace))) 0 in
      rows
      ∙ sum_by-range_one (λ k. sum_by f (eligible_from terms (trace ++ x ∷ []) k)) before a value 0 (length trace) (omega arith) (let w : a < length trace = l.within in omega arith)
      (omega (arith, earlier_row a l.within, latest_pair a l))
      (λ k low high ne. omega (arith, earlier_row k (omega arith), others k (omega arith) ne))
      ∙ ap (λ m. m + value) (sym (sum_by-flat_map f (eligible_from terms trace) (range_with_len 0 (length trace))))
    where
      others : (k : ℕ) → k < length trace → k ≢ a → pair_sum f terms (trace ++ x ∷ []) k (length trace) ≡ 0
      others k lk ne =
          ⊎_elim
          (λ (late : a < k). other_object k lk (l.others k late lk))
          (λ (early : k ≤ a).
          ⊎_elim
          (λ (same : same_object x (request_at trace k) ≡ true).
          let xk : x ≡ request_at trace k = same_object-true x (request_at trace k) same in
          asked_again k a (omega arith) l.within (ap (λ y. same_object y (request_at trace a)) (sym xk) ∙ l.same))
          (λ (no : same_object x (request_at trace k) ≡ false). other_object k lk no)
          (cases_Bool (same_object x (request_at trace k))))
          (cases_lt a k)
