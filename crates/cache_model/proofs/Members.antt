-- The members of the list of eligible intervals.
use Rattle.std.proofs.Common.{◌≡◌, ◌≢◌, ℕ, suc, zero, ◌+◌, ◌<◌, ◌≤◌, sym, refl, subst, Bool, true, false, not, ◌&&◌, cond, nat_lt, nat_le, List, [], ◌∷◌, ◌++◌, length, arith, ⊎_elim, All, AllPairs, Contains, filter, map, flat_map, slice_range}
use Rattle.std.specs.List.{range_with_len, list_any}
use Rattle.std.proofs.lemmas.Bool.{ltb-true, leb-true, and_parts, not-true, both_ways, cases_Bool, cases_eq}
use Rattle.std.proofs.lemmas.List.Kept.{AllPairs-cons}
use Rattle.std.proofs.lemmas.List.Elements.{All-nil, All-head, All-tail, All-weaker, All-append, All-map, All-contains, Contains-get_or, Contains-append_left, Contains-append_right}
use Rattle.cache_model.specs.declared.objects.Object.{Object}
use Rattle.cache_model.specs.declared.intervals.Interval.{Interval}
use Rattle.cache_model.specs.Claim.{Terms, counts, same_object, request_at, no_object}
use Rattle.cache_model.specs.Intervals.{is_eligible, interval_of, eligible_from, eligible_intervals}
use Rattle.cache_model.specs.Objects.{IsNext}
use Rattle.cache_model.specs.Laws.{IsEligible, EligibleIntervals}
use Rattle.cache_model.proofs.Eligible.{eligible_from_one, list_any-range_true}
use Rattle.cache_model.proofs.Keeps.{All-filter_range}

-- what holds of each piece holds of the pieces end to end
pub All-flat_map_range : {X : Type 0} (P : X → Type 0) (f : ℕ → List X) (a n : ℕ) → ((k : ℕ) → a ≤ k → k < a + n → All P (f k)) → All P (flat_map f (range_with_len a n))
All-flat_map_range P f a zero each = All-nil P
All-flat_map_range P f a (suc n) each =
    All-append P (f a) (flat_map f (range_with_len (a + 1) n)) (each a (omega arith) (omega arith)) (All-flat_map_range P f (a + 1) n (λ k low high. each k (omega arith) (omega arith)))

pub Contains-flat_map_range : {X : Type 0} (f : ℕ → List X) (x : X) (k a n : ℕ) → a ≤ k → k < a + n → Contains (f k) x → Contains (flat_map f (range_with_len a n)) x
Contains-flat_map_range f x k a zero low high m = absurd (omega arith)
Contains-flat_map_range f x k a (suc n) low high m =
    ⊎_elim
    (λ (e : a ≡ k). Contains-append_left (f a) (flat_map f (range_with_len (a + 1) n)) x (subst (λ j. Contains (f j) x) (sym e) m))
    (λ (ne : a ≢ k). Contains-append_right (f a) (flat_map f (range_with_len (a + 1) n)) x (Contains-flat_map_range f x k (a + 1) n (omega arith) (omega arith) m))
    (cases_eq a k)

-- the test and the relation
eligible_parts : (terms : Terms) (trace : List Object) (a b : ℕ) → b < length trace → is_eligible terms trace a b ≡ true → IsNext trace a b × ((request_at trace a).size ≤ terms.capacity) × (counts terms b ≡ true)
eligible_parts terms trace a b within e =
    let p : Object → Bool = same_object (request_at trace a) in
    let pair : Bool = nat_lt a b && p (request_at trace b) && not (list_any p (slice_range trace (a + 1) b)) in
    let all = and_parts (pair && nat_le (request_at trace a).size terms.capacity) (counts terms b) e in
    let outer = and_parts pair (nat_le (request_at trace a).size terms.capacity) all.0 in
    let inner = and_parts (nat_lt a b && p (request_at trace b)) (not (list_any p (slice_range trace (a + 1) b))) outer.0 in
    let first = and_parts (nat_lt a b) (p (request_at trace b)) inner.0 in (
      record {
        before = ltb-true a b first.0;
        within = within;
        same = first.1;
        others = λ k low high.
            ⊎_elim
            (λ (again : p (request_at trace k) ≡ true). absurd (both_ways _ (not-true _ inner.1) (list_any-range_true p trace no_object (a + 1) b k (omega arith) high (omega arith) again)))
            (λ (differs : p (request_at trace k) ≡ false). differs)
            (cases_Bool (p (request_at trace k)));
      },
      leb-true (request_at trace a).size terms.capacity outer.1,
      all.1,
    )

pub All-eligible_from : (terms : Terms) (trace : List Object) (a : ℕ) → All (λ i. IsEligible terms trace i × (i.start ≡ a)) (eligible_from terms trace a)
All-eligible_from terms trace a =
    let P : Interval → Type 0 = λ i. IsEligible terms trace i × (i.start ≡ a) in
    All-map P (interval_of terms.objective trace a) (filter (is_eligible terms trace a) (range_with_len 0 (length trace)))
    (All-filter_range (λ b. P (interval_of terms.objective trace a b)) (is_eligible terms trace a) 0 (length trace)
    (λ b low high e. let parts = eligible_parts terms trace a b (omega arith) e in (record { next = parts.0; fits = parts.1; counts = parts.2; numbers = refl }, refl)))

-- each interval of the list is eligible
pub All-eligible_intervals : (terms : Terms) (trace : List Object) → All (IsEligible terms trace) (eligible_intervals terms trace)
All-eligible_intervals terms trace =
    All-flat_map_range (IsEligible terms trace) (eligible_from terms trace) 0 (length trace)
    (λ a low high k d lt. (All-eligible_from terms trace a k d lt).0)

-- each eligible interval is in the list
pub Contains-eligible : (terms : Terms) (trace : List Object) (i : Interval) → IsEligible terms trace i → Contains (eligible_intervals terms trace) i
Contains-eligible terms trace i e =
    let row : eligible_from terms trace i.start ≡ interval_of terms.objective trace i.start i.end ∷ [] =
    eligible_from_one terms trace i.start i.end e.next e.fits e.counts in
    let one : Contains (interval_of terms.objective trace i.start i.end ∷ []) (interval_of terms.objective trace i.start i.end) = Contains-get_or (interval_of terms.objective trace i.start i.end ∷ []) 0 (interval_of terms.objective trace i.start i.end) (omega arith) in
    let there : Contains (eligible_from terms trace i.start) i =
    subst (λ xs. Contains xs i) (sym row) (subst (Contains (interval_of terms.objective trace i.start i.end ∷ [])) (sym e.numbers) one) in
    let next : IsNext trace i.start i.end = e.next in
    Contains-flat_map_range (eligible_from terms trace) i i.start 0 (length trace) (omega arith) (omega (arith, next.before, next.within)) there

AllPairs-append : {X : Type 0} (R : X → X → Type 0) (xs ys : List X) → AllPairs R xs → AllPairs R ys → All (λ x. All (R x) ys) xs → AllPairs R (xs ++ ys)
AllPairs-append R [] ys a b across = b
AllPairs-append R (x ∷ xs) ys a b across =
    AllPairs-cons R x (xs ++ ys)
    (All-append (R x) xs ys (λ k d lt. a 0 (suc k) d (omega arith) (omega arith)) (All-head (λ z. All (R z) ys) x xs across))
    (AllPairs-append R xs ys (λ i j d lt within. a (suc i) (suc j) d (omega arith) (omega arith)) b (All-tail (λ z. All (R z) ys) x xs across))

module _ (terms : Terms) (trace : List Object) where
  In_order : Interval → Interval → Type 0
  In_order i j = i.start < j.start

  row_in_order : (a b n : ℕ) → b + n ≤ length trace → AllPairs (λ i j. i.start < j.start) (map (interval_of terms.objective trace a) (filter (is_eligible terms trace a) (range_with_len b n)))
  row_in_order a b zero room = λ i j d lt within. absurd (omega arith)
  row_in_order a b (suc n) room = at (is_eligible terms trace a b) refl (row_in_order a (b + 1) n (omega arith))
    where
      rest : List ℕ
      rest = filter (is_eligible terms trace a) (range_with_len (b + 1) n)

      alone : is_eligible terms trace a b ≡ true → All (λ j. a < j.start) (map (interval_of terms.objective trace a) rest)
      alone e =
          All-map (λ (j : Interval). a < j.start) (interval_of terms.objective trace a) rest
          (All-filter_range (λ k. a < a) (is_eligible terms trace a) (b + 1) n
          (λ k low high e'.
          let here : IsNext trace a b = (eligible_parts terms trace a b (omega arith) e).0 in
          let later : IsNext trace a k = (eligible_parts terms trace a k (omega arith) e').0 in
          absurd (both_ways _ (later.others b here.before (omega arith)) here.same)))

      at : (t : Bool) → is_eligible terms trace a b ≡ t → AllPairs (λ i j. i.start < j.start) (map (interval_of terms.objective trace a) rest)
          → AllPairs (λ i j. i.start < j.start) (map (interval_of terms.objective trace a) (cond t (b ∷ rest) rest))
      at true e more = AllPairs-cons (λ i j. i.start < j.start) (interval_of terms.objective trace a b) (map (interval_of terms.objective trace a) rest) (alone e) more
      at false e more = more

  rows_in_order : (a n : ℕ) → a + n ≤ length trace → AllPairs (λ i j. i.start < j.start) (flat_map (eligible_from terms trace) (range_with_len a n))
  rows_in_order a zero room = λ i j d lt within. absurd (omega arith)
  rows_in_order a (suc n) room =
      AllPairs-append (λ i j. i.start < j.start) (eligible_from terms trace a) (flat_map (eligible_from terms trace) (range_with_len (a + 1) n))
      (row_in_order a 0 (length trace) (omega arith))
      (rows_in_order (a + 1) n (omega arith))
      (All-weaker (λ i. IsEligible terms trace i × (i.start ≡ a)) (λ i. All (λ j. i.start < j.start) (flat_map (eligible_from terms trace) (range_with_len (a + 1) n)))
      (λ i from. let here : i.start ≡ a = from.1 in
      All-flat_map_range (λ j. i.start < j.start) (eligible_from terms trace) (a + 1) n
      (λ k low high. All-weaker (λ j. IsEligible terms trace j × (j.start ≡ k)) (λ j. i.start < j.start) (λ j f. let there : j.start ≡ k = f.1 in omega arith)
      (eligible_from terms trace k) (All-eligible_from terms trace k)))
      (eligible_from terms trace a) (All-eligible_from terms trace a))

pub intervals_are_eligible : (terms : Terms) (trace : List Object) → EligibleIntervals terms trace
intervals_are_eligible terms trace = record {
  all_and_only = λ i. (All-contains (IsEligible terms trace) (eligible_intervals terms trace) i (All-eligible_intervals terms trace), Contains-eligible terms trace i);
  in_order = rows_in_order terms trace 0 (length trace) (omega arith);
}
