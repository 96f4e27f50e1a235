-- A valid certificate has no fault.
use Rattle.std.proofs.Common.{◌≡◌, ℕ, suc, zero, ◌+◌, ◌-◌, ◌*◌, ◌/◌, ◌%◌, ◌^◌, ◌<◌, ◌≤◌, ◌∙◌, sym, refl, ap, subst, Bool, true, false, not, ◌&&◌, ◌==◌, cond, nat_lt, nat_le, List, [], ◌∷◌, length, map, take, get_or, sum, arith, find, All, Any, None, Some, ◌⊎◌, inl, inr}
use Rattle.std.specs.List.{AllZip, list_any, range_with_len}
use Prim.Native.Nat.{◌∣◌}
use Rattle.std.proofs.Common.{eq-eqb}
use Rattle.std.proofs.Math.Nat.{mul-le-mul_left}
use Rattle.std.proofs.lemmas.Bool.{and_parts, both_ways, eqb-true, leb-true, le-leb, le-ltb, not-true}
use Rattle.std.proofs.lemmas.List.{get_or-map}
use Rattle.std.proofs.lemmas.List.Elements.{All-contains}
use Rattle.std.proofs.lemmas.List.Folds.{Any-from_list_any}
use Rattle.std.proofs.lemmas.List.FromFn.{length-range_with_len, get_or-range_with_len}
use Rattle.std.proofs.lemmas.List.Sums.{sum_by-take-le}
use Rattle.std.proofs.lemmas.Nat.Gcd.{mod-eq-zero_of_dvd}
use Rattle.cache_model.specs.declared.objects.Object.{Object}
use Rattle.cache_model.specs.declared.intervals.Interval.{Interval}
use Rattle.cache_model.specs.declared.certificates.Header.{Header}
use Rattle.cache_model.specs.declared.certificates.Record.{Record}
use Rattle.cache_model.specs.Claim.{counts_past, same_object, gain_of, total_size, request_at, no_object, contents_of, held_before, is_latest, terms_of}
use Rattle.cache_model.specs.Objects.{IsFirst, IsNext}
use Rattle.cache_model.specs.Intervals.{interval_of}
use Rattle.cache_model.specs.Keeps.{latest_sum, load_after}
use Rattle.cache_model.specs.Laws.{IsEligible}
use Rattle.cache_model.specs.Units.{weight}
use Rattle.cache_model.specs.Certificates.{eligible_of, flow_at, keeps_of, prices_of, units_of, unpriced, IsValid}
use Rattle.cache_model.proofs.Duality.{same_object-true}
use Rattle.cache_model.proofs.DifferentObjects.{is_first-yes}
use Rattle.cache_model.proofs.Eligible.{list_any-range_true}
use Rattle.cache_model.proofs.Members.{All-eligible_intervals, Contains-eligible}
use Rattle.cache_model.proofs.Loads.{load-latest}
use Rattle.cache_model.proofs.Scores.{first_or_next}
use Rattle.cert_checker.specs.Laws.{FaultlessIsValid, IsFaultless}
use Rattle.cert_checker.specs.Rules.{counted_of, divides, ends_interval, figures_at, first_unused, has_flow_until, record_at, record_fault, unused_before, was_requested, weight_in}
use Rattle.cert_checker.proofs.Warmup.{find-first, find-next, none-starts}
use Rattle.cert_checker.proofs.Passing.{none_from_Passes, none_from_EndPasses, and_from_second, not_from_equal}
use Rattle.cert_checker.proofs.Unused.{find-range_none}
use Rattle.cert_checker.proofs.Validity.{IsValid-faultless}

-- a function of some items, paired with them
AllZip-map_at : {X Y : Type 0} (R : X → Y → Type 0) (f : X → Y) (xs : List X) → AllZip R xs (map f xs) → (k : ℕ) (d : X) → k < length xs → R (get_or xs k d) (f (get_or xs k d))
AllZip-map_at R f [] each k d low = absurd (omega arith)
AllZip-map_at R f (x ∷ xs) each zero d low = each.0
AllZip-map_at R f (x ∷ xs) each (suc k) d low = AllZip-map_at R f xs each.1 k d (omega arith)

-- a number that divides leaves nothing
divides-from : (a b : ℕ) → a ∣ b → divides a b ≡ true
divides-from a b d = eq-eqb (b % a) 0 (mod-eq-zero_of_dvd a d)

-- what stands in a range
at_range : {X : Type 0} (f : ℕ → X) (n k : ℕ) (d : X) → k < n → get_or (map f (range_with_len 0 n)) k d ≡ f k
at_range f n k d low =
    get_or-map f (range_with_len 0 n) k 0 d (omega (arith, length-range_with_len 0 n))
    ∙ ap f (get_or-range_with_len 0 n k 0 low ∙ omega arith)

module _ (h : Header) (fills : List Bool) (trace : List Object) (records : List Record) (v : IsValid trace fills h records) where
  one : length records ≡ length trace
  one = v.certificate.count ∙ v.requests

  flow-is : (t : ℕ) → t < length trace → flow_at records t ≡ (record_at records t).flow
  flow-is t low = get_or-map (λ (r : Record). r.flow) records t (unpriced false) 0 (omega (arith, one))

  module _ (t : ℕ) (low : t < length trace) where
    x : Object
    x = request_at trace t

    prices : nat_lt (2 ^ 126) (units_of h * sum (take (t + 1) (prices_of records))) ≡ false
    prices =
        let less : units_of h * sum (take (t + 1) (prices_of records)) ≤ units_of h * sum (prices_of records) =
        mul-le-mul_left (units_of h) (sum_by-take-le (λ (n : ℕ). n) (prices_of records) (t + 1)) in
        le-ltb (2 ^ 126) (units_of h * sum (take (t + 1) (prices_of records))) (omega (arith, v.sum_limit))

    last : ((t + 1 == h.requests) && not ((record_at records t).price == 0)) ≡ false
    last =
        and_from_second (t + 1 == h.requests) (not ((record_at records t).price == 0)) (λ is_last.
        let here : t ≡ length trace - 1 = omega (arith, eqb-true (t + 1) h.requests is_last, v.requests) in
        not_from_equal (record_at records t).price 0
        (sym (get_or-map (λ (r : Record). r.price) records t (unpriced false) 0 (omega (arith, one)))
        ∙ ap (λ k. get_or (prices_of records) k 0) here ∙ v.last_price))

    -- the interval that ends there
    ended : ends_interval h (request_at trace t) (figures_at h fills trace records t) ≡ true → (a : ℕ) × IsEligible (terms_of h fills) trace (interval_of h.objective trace a t)
    ended ends =
        let parts : ((was_requested trace t && counts_past h.warmup fills t) ≡ true) × (nat_le (request_at trace t).size h.capacity ≡ true) =
        and_parts (was_requested trace t && counts_past h.warmup fills t) (nat_le (request_at trace t).size h.capacity) ends in
        let counts : (was_requested trace t ≡ true) × (counts_past h.warmup fills t ≡ true) = and_parts (was_requested trace t) (counts_past h.warmup fills t) parts.0 in
        from counts.0 counts.1 (leb-true (request_at trace t).size h.capacity parts.1) (first_or_next trace t low)
      where
        from : was_requested trace t ≡ true → counts_past h.warmup fills t ≡ true → (request_at trace t).size ≤ h.capacity → IsFirst trace t ⊎ ((a : ℕ) × IsNext trace a t)
            → (a : ℕ) × IsEligible (terms_of h fills) trace (interval_of h.objective trace a t)
        from again over fits (inl first) = absurd (both_ways (was_requested trace t) (not-true (was_requested trace t) (is_first-yes trace t (omega arith) first)) again)
        from again over fits (inr (a, next)) =
            let same : request_at trace a ≡ request_at trace t = same_object-true (request_at trace a) (request_at trace t) next.same in
            (a, record { next = next; fits = subst (λ (y : Object). y.size ≤ h.capacity) (sym same) fits; counts = over; numbers = refl })

    -- what is said of the intervals holds of that one
    of_ended : (P : Interval → Type 0) → All P (eligible_of trace fills h) → (a : ℕ) → IsEligible (terms_of h fills) trace (interval_of h.objective trace a t)
        → P (record { start = a; end = t; size = (request_at trace t).size; gain = gain_of h.objective (request_at trace t) })
    of_ended P all a e =
        let same : request_at trace a ≡ request_at trace t = same_object-true (request_at trace a) (request_at trace t) e.next.same in
        subst (λ (y : Object). P (record { start = a; end = t; size = y.size; gain = gain_of h.objective (request_at trace t) })) same
        (All-contains P (eligible_of trace fills h) (interval_of h.objective trace a t) all (Contains-eligible (terms_of h fills) trace (interval_of h.objective trace a t) e))

    unit : (ends_interval h (request_at trace t) (figures_at h fills trace records t) && not (divides h.unit (request_at trace t).size)) ≡ false
    unit =
        and_from_second (ends_interval h (request_at trace t) (figures_at h fills trace records t)) (not (divides h.unit (request_at trace t).size)) (λ ends.
        let i = ended ends in
        ap not (divides-from h.unit (request_at trace t).size (of_ended (λ i. h.unit ∣ i.size) v.unit i.0 i.1)))

    whole : (ends_interval h (request_at trace t) (figures_at h fills trace records t) && h.exact
        && not (divides ((request_at trace t).size / h.unit) (h.denominator * gain_of h.objective (request_at trace t)))) ≡ false
    whole =
        and_from_second (ends_interval h (request_at trace t) (figures_at h fills trace records t) && h.exact)
        (not (divides ((request_at trace t).size / h.unit) (h.denominator * gain_of h.objective (request_at trace t)))) (λ both.
        let parts : (ends_interval h (request_at trace t) (figures_at h fills trace records t) ≡ true) × (h.exact ≡ true) =
        and_parts (ends_interval h (request_at trace t) (figures_at h fills trace records t)) h.exact both in
        let i = ended parts.0 in
        ap not (divides-from ((request_at trace t).size / h.unit) (h.denominator * gain_of h.objective (request_at trace t))
        (of_ended (λ i. weight h.unit i ∣ h.denominator * i.gain) (v.whole_costs parts.1) i.0 i.1)))

    load : nat_lt h.capacity (load_after trace (keeps_of records) t) ≡ false
    load =
        let P : List Object → Type 0 = λ held. total_size held ≤ h.capacity in
        let held : get_or (contents_of trace (keeps_of records)) (t + 1) [] ≡ held_before trace (keeps_of records) (t + 1) =
        at_range (held_before trace (keeps_of records)) (length trace + 1) (t + 1) [] (omega arith) in
        le-ltb h.capacity (load_after trace (keeps_of records) t)
        (subst (λ held. total_size held ≤ h.capacity) held
        (v.keeps.within_capacity (t + 1) [] (omega (arith, v.keeps.one_more_than_requests))))

    flow-le : flow_at records t ≤ weight_in h (request_at trace t)
    flow-le = at (list_any (λ i. i.start == t) (eligible_of trace fills h)) refl
      where
        started : Any (λ i. (i.start == t) ≡ true) (eligible_of trace fills h) → flow_at records t ≤ weight_in h (request_at trace t)
        started (k, i, kl, there, starts) =
            let e : IsEligible (terms_of h fills) trace i = subst (IsEligible (terms_of h fills) trace) there (All-eligible_intervals (terms_of h fills) trace k i kl) in
            let here : i.start ≡ t = eqb-true i.start t starts in
            let own : flow_at records i.start ≤ weight h.unit i =
            subst (λ j. flow_at records j.start ≤ weight h.unit j) there
            (AllZip-map_at (λ i f. f ≤ weight h.unit i) (λ i. flow_at records i.start) (eligible_of trace fills h) v.flows.within_weights k i kl) in
            let fits : (request_at trace t).size ≤ h.capacity = subst (λ a. (request_at trace a).size ≤ h.capacity) here e.fits in
            let size : i.size ≡ (request_at trace t).size = ap (λ (j : Interval). j.size) e.numbers ∙ ap (λ a. (request_at trace a).size) here in
            let room : weight_in h (request_at trace t) ≡ weight h.unit i =
            ap (λ b. cond b ((request_at trace t).size / h.unit) 0) (le-leb (request_at trace t).size h.capacity fits) ∙ ap (λ s. s / h.unit) (sym size) in
            omega (arith, ap (flow_at records) here)

        at : (b : Bool) → list_any (λ i. i.start == t) (eligible_of trace fills h) ≡ b → flow_at records t ≤ weight_in h (request_at trace t)
        at true starts = started (Any-from_list_any (λ i. i.start == t) (eligible_of trace fills h) starts)
        at false none = omega (arith, v.unused_flows t none)

    flow : nat_lt (weight_in h (request_at trace t)) (record_at records t).flow ≡ false
    flow = le-ltb (weight_in h (request_at trace t)) (record_at records t).flow (omega (arith, flow-is t low, flow-le))

    flows : nat_lt (units_of h) (latest_sum trace (flow_at records) (t + 1)) ≡ false
    flows =
        le-ltb (units_of h) (latest_sum trace (flow_at records) (t + 1))
        (omega (arith, load-latest (terms_of h fills) trace (flow_at records) t v.unused_flows low, v.flows.within_units t))

    unused : unused_before h fills trace records t ≡ None
    unused = at (counts_past h.warmup fills t) refl
      where
        none_found : IsFirst trace t ⊎ ((a : ℕ) × IsNext trace a t) → counts_past h.warmup fills t ≡ false → find (has_flow_until trace records t) (range_with_len 0 t) ≡ None
        none_found (inl first) warm = find-first trace records t first
        none_found (inr (a, next)) warm = find-next trace t a next records ∙ ap (λ f. cond (nat_lt 0 f) (Some a) None) (v.unused_flows a (none-starts h fills trace a t next warm))

        at : (b : Bool) → counts_past h.warmup fills t ≡ b → unused_before h fills trace records t ≡ None
        at false uncounted = ap (λ c. cond c None (find (has_flow_until trace records t) (range_with_len 0 t))) uncounted ∙ none_found (first_or_next trace t low) uncounted
        at true over = ap (λ c. cond c None (find (has_flow_until trace records t) (range_with_len 0 t))) over

    no_record : record_fault h fills trace records t ≡ None
    no_record =
        none_from_Passes h (request_at trace t) (record_at records t) (figures_at h fills trace records t)
        (record { prices = prices; last = last; unit = unit; whole = whole; load = load; flow = flow; flows = flows; unused = unused })

  -- no interval starts at the last request of an object
  last_flow : (a : ℕ) → a < length trace → is_latest trace (length trace) a ≡ true → flow_at records a ≡ 0
  last_flow a low latest = v.unused_flows a (at (list_any (λ i. i.start == a) (eligible_of trace fills h)) refl)
    where
      started : Any (λ i. (i.start == a) ≡ true) (eligible_of trace fills h) → ⊥
      started (k, i, kl, there, starts) =
          let e : IsEligible (terms_of h fills) trace i = subst (IsEligible (terms_of h fills) trace) there (All-eligible_intervals (terms_of h fills) trace k i kl) in
          let here : i.start ≡ a = eqb-true i.start a starts in
          let next : IsNext trace a i.end = subst (λ b. IsNext trace b i.end) here e.next in
          let before : a < i.end = next.before in
          let past : is_latest trace (length trace) a ≡ false =
          ap not (list_any-range_true (same_object (request_at trace a)) trace no_object (a + 1) (length trace) i.end (omega arith) next.within (omega arith) next.same) in
          both_ways _ past latest

      at : (b : Bool) → list_any (λ i. i.start == a) (eligible_of trace fills h) ≡ b → list_any (λ i. i.start == a) (eligible_of trace fills h) ≡ false
      at true starts = absurd (started (Any-from_list_any (λ i. i.start == a) (eligible_of trace fills h) starts))
      at false none = none

  no_flow : first_unused trace records ≡ None
  no_flow =
      find-range_none (λ a. is_latest trace (length trace) a && nat_lt 0 (flow_at records a)) 0 (length trace)
      (λ a from low. and_from_second (is_latest trace (length trace) a) (nat_lt 0 (flow_at records a)) (λ latest.
      le-ltb 0 (flow_at records a) (omega (arith, last_flow a (omega arith) latest))))

  pub IsFaultless-valid : IsFaultless h fills trace records
  IsFaultless-valid = record {
    no_record = no_record;
    no_end = none_from_EndPasses h (first_unused trace records) (counted_of h fills trace records)
        (record { no_flow = no_flow; upper = v.upper; flow = v.flow; lower = v.lower; gap = λ exact. sym v.upper ∙ v.exact_values exact ∙ v.flow });
  }

-- both ways
pub faultless_is_valid_lem : FaultlessIsValid
faultless_is_valid_lem h fills trace records cert many =
    (λ faultless. IsValid-faultless h fills trace records cert many faultless.no_record faultless.no_end, λ valid. IsFaultless-valid h fills trace records valid)
