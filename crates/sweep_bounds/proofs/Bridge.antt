-- Sums over the eligible intervals are sums over the spans within the capacity.
use Rattle.std.proofs.Common.{◌≡◌, ℕ, ◌+◌, ◌-◌, ◌<◌, ◌≤◌, ◌∙◌, sym, refl, ap, Bool, true, false, ◌&&◌, cond, nat_le, List, [], length, arith, map, filter, sum_by}
use Rattle.std.specs.List.{range_with_len}
use Rattle.std.proofs.lemmas.Bool.{le-ltb, lt-ltb}
use Rattle.cache_model.specs.declared.objects.Object.{Object}
use Rattle.cache_model.specs.declared.intervals.Interval.{Interval}
use Rattle.cache_model.specs.Claim.{Terms, counts, is_latest, request_at, same_object}
use Rattle.cache_model.specs.Objects.{numbers_of}
use Rattle.cache_model.specs.Intervals.{eligible_intervals, interval_of, is_eligible}
use Rattle.cache_model.proofs.Duality.{same_object-true}
use Rattle.cache_model.proofs.Rounding.{sum_by-range_upto}
use Rattle.cache_model.proofs.Streams.{sum_by-range_agree}
use Rattle.cache_model.proofs.Sums.{sum_by-filter, sum_by-flat_map, sum_by-map, sum_by-nothing}
use Rattle.interval_ends.specs.Ends.{eligible_to}
use Rattle.interval_ends.proofs.Ends.{sums_by_ends}
use Rattle.area_sums.specs.Spans.{Span, within}
use Rattle.sweep_bounds.specs.Spans.{last_before, span_from, spans_at, spans_of}

-- a range whose terms are 0 from the first n on
sum_by-range_short : (f g : ℕ → ℕ) (n m : ℕ) → n ≤ m → ((k : ℕ) → k < n → f k ≡ g k) → ((k : ℕ) → n ≤ k → f k ≡ 0)
    → sum_by f (range_with_len 0 m) ≡ sum_by g (range_with_len 0 n)
sum_by-range_short f g n m within same nothing =
    let e : m ≡ n + (m - n) = omega arith in
    ap (λ k. sum_by f (range_with_len 0 k)) e ∙ sum_by-range_upto f n (m - n) nothing
    ∙ sum_by-range_agree f g 0 n (λ k low high. same k (omega arith))

module _ (f : Interval → ℕ) (g : Span → ℕ) (terms : Terms) (delay : ℕ) (trace : List Object)
    (same : (a b : ℕ) → same_object (request_at trace a) (request_at trace b) ≡ true
    → f (interval_of terms.objective trace a b) ≡ g (span_from delay trace b a)) where
  abbrev pair : ℕ → ℕ → ℕ
  pair a b = cond (is_eligible terms trace a b) (f (interval_of terms.objective trace a b)) 0

  abbrev fitting : Span → ℕ
  fitting s = cond (nat_le s.size terms.capacity) (g s) 0

  -- what a pair of requests adds, if the earlier one is the last of the object
  abbrev last_pair : ℕ → ℕ → ℕ
  last_pair b a =
      cond (same_object (request_at trace a) (request_at trace b) && is_latest trace b a) (fitting (span_from delay trace b a)) 0

  -- a later request starts no interval
  pair-late : (a b : ℕ) → b ≤ a → pair a b ≡ 0
  pair-late a b late =
      ap (λ t. cond (t && same_object (request_at trace a) (request_at trace b) && is_latest trace b a && nat_le (request_at trace a).size terms.capacity && counts terms b)
      (f (interval_of terms.objective trace a b)) 0) (le-ltb a b late)

  -- an earlier one adds what the span does
  pair-early : (a b : ℕ) → a < b → pair a b ≡ cond (counts terms b) (last_pair b a) 0
  pair-early a b early =
      ap (λ t. cond (t && same_object (request_at trace a) (request_at trace b) && is_latest trace b a && nat_le (request_at trace a).size terms.capacity && counts terms b)
      (f (interval_of terms.objective trace a b)) 0) (lt-ltb a b early)
      ∙ at (same_object (request_at trace a) (request_at trace b)) (is_latest trace b a) (counts terms b) refl
    where
      at : (t l c : Bool) → same_object (request_at trace a) (request_at trace b) ≡ t
          → cond (t && l && nat_le (request_at trace a).size terms.capacity && c) (f (interval_of terms.objective trace a b)) 0
          ≡ cond c (cond (t && l) (fitting (span_from delay trace b a)) 0) 0
      at false l true e = refl
      at false l false e = refl
      at true false true e = refl
      at true false false e = refl
      at true true c e =
          ap (λ (x : Object). cond (nat_le x.size terms.capacity && c) (f (interval_of terms.objective trace a b)) 0)
          (same_object-true (request_at trace a) (request_at trace b) e)
          ∙ ap (λ n. cond (nat_le (request_at trace b).size terms.capacity && c) n 0) (same a b e)
          ∙ turn (nat_le (request_at trace b).size terms.capacity) c (g (span_from delay trace b a))
        where
          turn : (s c : Bool) (n : ℕ) → cond (s && c) n 0 ≡ cond c (cond s n 0) 0
          turn true true n = refl
          turn true false n = refl
          turn false true n = refl
          turn false false n = refl

  -- what the intervals add that end at a request
  column : (b : ℕ) → b ≤ length trace
      → sum_by f (eligible_to terms trace b) ≡ sum_by fitting (spans_at terms.warmup delay terms.fills trace b)
  column b within =
      sum_by-map f (λ a. interval_of terms.objective trace a b) (filter (λ a. is_eligible terms trace a b) (numbers_of trace))
      ∙ sum_by-filter (λ a. f (interval_of terms.objective trace a b)) (λ a. is_eligible terms trace a b) (numbers_of trace)
      ∙ sum_by-range_short (λ a. pair a b) (λ a. cond (counts terms b) (last_pair b a) 0) b (length trace) within
      (λ a low. pair-early a b low) (λ a high. pair-late a b high)
      ∙ at (counts terms b)
    where
      at : (c : Bool) → sum_by (λ a. cond c (last_pair b a) 0) (range_with_len 0 b)
          ≡ sum_by fitting (cond c (map (span_from delay trace b) (last_before trace b)) [])
      at true =
          sym
          (sum_by-map fitting (span_from delay trace b) (last_before trace b)
          ∙ sum_by-filter (λ a. fitting (span_from delay trace b a)) (λ a. same_object (request_at trace a) (request_at trace b) && is_latest trace b a) (range_with_len 0 b))
      at false = sum_by-nothing (λ a. 0) (range_with_len 0 b) (λ a. refl)

  -- all of them
  pub sum_by-spans : sum_by f (eligible_intervals terms trace) ≡ sum_by g (within terms.capacity (spans_of terms.warmup delay terms.fills trace))
  sum_by-spans =
      let requests : List ℕ = numbers_of trace in
      sums_by_ends f terms trace
      ∙ sum_by-range_agree (λ b. sum_by f (eligible_to terms trace b)) (λ b. sum_by fitting (spans_at terms.warmup delay terms.fills trace b)) 0 (length trace)
      (λ b low high. column b (omega arith))
      ∙ sym
      (sum_by-filter g (λ s. nat_le s.size terms.capacity) (spans_of terms.warmup delay terms.fills trace)
      ∙ sum_by-flat_map fitting (spans_at terms.warmup delay terms.fills trace) requests)
