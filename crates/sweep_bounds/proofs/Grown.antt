-- The spans of a trace with one request more.
use Rattle.std.proofs.Common.{◌≡◌, ◌≢◌, ℕ, zero, suc, ◌+◌, ◌-◌, ◌<◌, ◌≤◌, ◌∙◌, refl, ap, Bool, true, false, not, ◌&&◌, cond, nat_le, List, [], ◌∷◌, ◌++◌, length, arith, ⊎_elim, append-nil, map, filter, flat_map, slice_range, None, Some}
use Rattle.std.specs.List.{list_any, range_with_len}
use Rattle.std.specs.declared.option.Option.{Option}
use Rattle.std.proofs.lemmas.Bool.{cases_Bool, cases_lt, and_left, and_right, and_from}
use Rattle.std.proofs.lemmas.List.Concat.{flat_map-append}
use Rattle.cache_model.specs.declared.objects.Object.{Object}
use Rattle.cache_model.specs.Claim.{is_latest, no_object, only_fills, request_at, same_object}
use Rattle.cache_model.specs.Objects.{IsLatest, IsNew, IsNext}
use Rattle.cache_model.proofs.DifferentObjects.{IsNext-pushed, length-pushed, request_at-early, request_at-pushed}
use Rattle.cache_model.proofs.Duality.{same_object-true}
use Rattle.cache_model.proofs.Eligible.{filter-range_none, filter-range_one, list_any-range_false, list_any-range_true, range-suc}
use Rattle.cache_model.proofs.Pairs.{same_object-sym}
use Rattle.cache_model.proofs.Streams.{slice_range-append}
use Rattle.area_sums.specs.Spans.{Span}
use Rattle.sweep_bounds.specs.Spans.{last_before, spans_at, spans_of}
use Rattle.sweep_bounds.specs.Sweep.{IsLatestOrNew, length_since, span_if}

-- two tests that agree on a range keep the same of it
filter-range_agree : (p q : ℕ → Bool) (a n : ℕ) → ((k : ℕ) → a ≤ k → k < a + n → p k ≡ q k)
    → filter p (range_with_len a n) ≡ filter q (range_with_len a n)
filter-range_agree p q a zero same = refl
filter-range_agree p q a (suc n) same =
    ap (λ t. cond t (a ∷ filter p (range_with_len (a + 1) n)) (filter p (range_with_len (a + 1) n))) (same a (omega arith) (omega arith))
    ∙ ap (λ xs. cond (q a) (a ∷ xs) xs) (filter-range_agree p q (a + 1) n (λ k low high. same k (omega arith) (omega arith)))

-- so with lists that are joined
flat_map-range_agree : {X : Type 0} (f g : ℕ → List X) (a n : ℕ) → ((k : ℕ) → a ≤ k → k < a + n → f k ≡ g k)
    → flat_map f (range_with_len a n) ≡ flat_map g (range_with_len a n)
flat_map-range_agree f g a zero same = refl
flat_map-range_agree f g a (suc n) same =
    ap (λ xs. xs ++ flat_map f (range_with_len (a + 1) n)) (same a (omega arith) (omega arith))
    ∙ ap (λ xs. g a ++ xs) (flat_map-range_agree f g (a + 1) n (λ k low high. same k (omega arith) (omega arith)))

-- the spans at a request, by what they depend on
abbrev pub spans_by : ℕ → ℕ → Bool → Object → List ℕ → List Span
spans_by delay t counted x earlier =
    cond counted (map (λ a. record { size = x.size; length = t - a - delay }) earlier) []

module _ (trace : List Object) (x : Object) where
  abbrev longer : List Object
  longer = trace ++ x ∷ []

  -- nothing changes for the requests so far
  is_latest-early : (t a : ℕ) → a < t → t < length trace → is_latest longer t a ≡ is_latest trace t a
  is_latest-early t a low high =
      ap (λ y. not (list_any (same_object y) (slice_range longer (a + 1) t))) (request_at-early trace x a (omega arith))
      ∙ ap (λ xs. not (list_any (same_object (request_at trace a)) xs)) (slice_range-append trace x (a + 1) t (omega arith) (omega arith))

  last_before-early : (t : ℕ) → t < length trace → last_before longer t ≡ last_before trace t
  last_before-early t within =
      filter-range_agree
      (λ a. same_object (request_at longer a) (request_at longer t) && is_latest longer t a)
      (λ a. same_object (request_at trace a) (request_at trace t) && is_latest trace t a) 0 t
      (λ a low high.
      let before : a < t = omega arith in
      let y = request_at-early trace x a (omega arith) in
      let z = request_at-early trace x t within in
      let latest = is_latest-early t a before within in
      λ i. same_object (y i) (z i) && latest i)

  spans_at-early : (warmup delay : ℕ) (fills marks : List Bool) (t : ℕ) → t < length trace → only_fills marks t ≡ only_fills fills t
      → spans_at warmup delay marks longer t ≡ spans_at warmup delay fills trace t
  spans_at-early warmup delay fills marks t within marked =
      let y = request_at-early trace x t within in
      let earlier = last_before-early t within in
      λ i. spans_by delay t (nat_le warmup t && not (marked i)) (y i) (earlier i)

  -- the number of the last one
  abbrev now : ℕ
  now = length trace

  is_last : ℕ → Bool
  is_last a = same_object (request_at longer a) (request_at longer now) && is_latest longer now a

  same_now : (k : ℕ) → k < length trace → same_object (request_at longer k) (request_at longer now) ≡ same_object x (request_at trace k)
  same_now k low =
      ap (λ y. same_object y (request_at longer now)) (request_at-early trace x k low)
      ∙ ap (same_object (request_at trace k)) (request_at-pushed trace x) ∙ same_object-sym (request_at trace k) x

  -- no request is of its object
  last_before-new : IsNew trace x → last_before longer now ≡ []
  unfolding is_last
  last_before-new new =
      filter-range_none is_last 0 now
      (λ k low high. and_left _ (is_latest longer now k) (same_now k (omega arith) ∙ new k (omega arith)))

  -- or the latest of its object stands before it
  module _ (a : ℕ) (latest : IsLatest trace x a) where
    next : IsNext longer a now
    next = IsNext-pushed trace x a latest

    is_last-latest : is_last a ≡ true
    unfolding is_last
    is_last-latest =
        and_from _ _ next.same
        (ap not (list_any-range_false (same_object (request_at longer a)) longer no_object (a + 1) now (omega (arith, length-pushed trace x))
        (λ k low high. next.others k (omega arith) high)))

    is_last-other : (k : ℕ) → k < now → k ≢ a → is_last k ≡ false
    unfolding is_last
    is_last-other k within other =
        ⊎_elim
        (λ (late : a < k). and_left _ (is_latest longer now k) (same_now k within ∙ latest.others k late within))
        (λ (early : k ≤ a).
        ⊎_elim
        (λ (same : same_object (request_at longer k) (request_at longer now) ≡ true).
        let here : request_at longer k ≡ request_at longer now = same_object-true (request_at longer k) (request_at longer now) same in
        let again : same_object (request_at longer k) (request_at longer a) ≡ true =
        ap (λ y. same_object y (request_at longer a)) here ∙ same_object-sym (request_at longer now) (request_at longer a) ∙ next.same in
        and_right _ _
        (ap not (list_any-range_true (same_object (request_at longer k)) longer no_object (k + 1) now a (omega arith) next.before (omega (arith, length-pushed trace x)) again)))
        (λ (differs : same_object (request_at longer k) (request_at longer now) ≡ false). and_left _ (is_latest longer now k) differs)
        (cases_Bool (same_object (request_at longer k) (request_at longer now))))
        (cases_lt a k)

    last_before-latest : last_before longer now ≡ a ∷ []
    unfolding is_last
    last_before-latest =
        let low : a < now = latest.within in
        filter-range_one is_last a 0 now (omega arith) (omega arith) is_last-latest (λ k low high other. is_last-other k (omega arith) other)

  -- the span that ends there
  spans_at-now : (warmup delay : ℕ) (marks : List Bool) (only : Bool) (found : Option ℕ) → only_fills marks now ≡ only → IsLatestOrNew trace x found
      → spans_at warmup delay marks longer now
      ≡ span_if x.size (cond (nat_le warmup now && not only) (length_since delay now found) None)
  spans_at-now warmup delay marks only found marked is =
      ap (λ o. spans_by delay now (nat_le warmup now && not o) (request_at longer now) (last_before longer now)) marked
      ∙ ap (λ y. spans_by delay now (nat_le warmup now && not only) y (last_before longer now)) (request_at-pushed trace x)
      ∙ at (nat_le warmup now && not only) found is
    where
      at : (counted : Bool) (found : Option ℕ) → IsLatestOrNew trace x found
          → spans_by delay now counted x (last_before longer now) ≡ span_if x.size (cond counted (length_since delay now found) None)
      at false found is = refl
      at true None is = ap (spans_by delay now true x) (last_before-new is)
      at true (Some a) is = ap (spans_by delay now true x) (last_before-latest a is)

  -- all of them
  pub spans_of-pushed : (warmup delay : ℕ) (fills marks : List Bool) (only : Bool) (found : Option ℕ)
      → ((t : ℕ) → t < length trace → only_fills marks t ≡ only_fills fills t) → only_fills marks now ≡ only → IsLatestOrNew trace x found
      → spans_of warmup delay marks longer
      ≡ spans_of warmup delay fills trace ++ span_if x.size (cond (nat_le warmup now && not only) (length_since delay now found) None)
  spans_of-pushed warmup delay fills marks only found marked last is =
      let f : ℕ → List Span = spans_at warmup delay marks longer in
      ap (λ n. flat_map f (range_with_len 0 n)) (length-pushed trace x)
      ∙ ap (flat_map f) (range-suc 0 now now (omega arith))
      ∙ flat_map-append f (range_with_len 0 now) (now ∷ [])
      ∙ ap (λ xs. xs ++ flat_map f (now ∷ []))
      (flat_map-range_agree f (spans_at warmup delay fills trace) 0 now (λ k low high. spans_at-early warmup delay fills marks k (omega arith) (marked k (omega arith))))
      ∙ ap (λ xs. spans_of warmup delay fills trace ++ xs) (append-nil (f now) ∙ spans_at-now warmup delay marks only found last is)
