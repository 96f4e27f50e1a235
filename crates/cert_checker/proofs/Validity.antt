-- A certificate without a fault is valid.
use Rattle.std.proofs.Common.{◌≡◌, ◌≢◌, ℕ, suc, zero, ◌+◌, ◌-◌, ◌*◌, ◌/◌, ◌%◌, ◌^◌, ◌<◌, ◌≤◌, ◌∙◌, sym, refl, ap, subst, Bool, true, false, not, ◌&&◌, ◌==◌, cond, nat_lt, nat_le, List, [], ◌∷◌, length, map, take, get_or, sum, arith, All, None, Some, ⊎_elim, ◌⊎◌, inl, inr, find, is_some, true≢false}
use Rattle.std.specs.Prelude.{IsTrue}
use Rattle.std.specs.List.{AllZip, list_any, range_with_len}
use Prim.Native.Nat.{◌∣◌}
use Rattle.std.proofs.lemmas.Bool.{cases_Bool, cases_lt, both_ways, and_from, eqb-true, le-leb, le-ltb, lt-leb, lt-ltb, ltb-false, not-false, and_right}
use Rattle.std.proofs.Common.{eq-eqb}
use Rattle.std.proofs.lemmas.List.{get_or-map, get_or-take, get_or_past, length-map, length-take-le, take_all}
use Rattle.std.proofs.lemmas.List.Folds.{list_any_at}
use Rattle.std.proofs.lemmas.Nat.Gcd.{dvd_of_mod-eq-zero}
use Rattle.cache_model.specs.declared.objects.Object.{Object}
use Rattle.cache_model.specs.declared.intervals.Interval.{Interval}
use Rattle.cache_model.specs.declared.certificates.Header.{Header}
use Rattle.cache_model.specs.declared.certificates.Record.{Record}
use Rattle.cache_model.specs.Claim.{counts_past, same_object, gain_of, request_at, no_object, is_latest, terms_of}
use Rattle.cache_model.specs.Objects.{IsNext}
use Rattle.cache_model.specs.Intervals.{interval_of}
use Rattle.cache_model.specs.Keeps.{latest_sum, load_after}
use Rattle.cache_model.specs.Laws.{IsEligible}
use Rattle.cache_model.specs.Schedules.{covers, load_at}
use Rattle.cache_model.specs.Units.{weight, HasWholeCosts}
use Rattle.cache_model.specs.Certificates.{eligible_of, flow_at, flows_of, keeps_of, prices_of, units_of, unpriced, IsCertificate, IsValid}
use Rattle.cache_model.proofs.Duality.{same_object-true}
use Rattle.cache_model.proofs.Eligible.{list_any-range_false}
use Rattle.cache_model.proofs.Members.{All-eligible_intervals, Contains-eligible}
use Rattle.cache_model.proofs.Loads.{load-latest}
use Rattle.cache_model.proofs.Rounding.{sum_by-none}
use Rattle.cache_model.proofs.Scores.{allowed-from_loads}
use Rattle.cache_model.proofs.Loads.{load_at-map}
use Rattle.cert_checker.specs.Rules.{counted_of, divides, ends_interval, end_fault, figures_at, first_unused, has_flow_until, record_at, record_fault, unused_before, was_requested, weight_in}
use Rattle.cert_checker.proofs.Warmup.{find-next}
use Rattle.cert_checker.proofs.Passing.{Passes, Passes-from_none, EndPasses, EndPasses-from_none, equal_from_not, second_from_and}

-- a request of an object that was requested before
was_requested-again : (trace : List Object) (a b : ℕ) → IsNext trace a b → was_requested trace b ≡ true
was_requested-again trace a b next =
    let low : a < b = next.before in
    let high : b < length trace = next.within in
    let p : Object → Bool = same_object (request_at trace b) in
    let same : request_at trace a ≡ request_at trace b = same_object-true (request_at trace a) (request_at trace b) next.same in
    list_any_at p (take b trace) a no_object (omega (arith, length-take-le b trace))
    (ap p (get_or-take b trace a no_object low ∙ same) ∙ ap (same_object (request_at trace b)) refl ∙ ap (λ y. same_object y (request_at trace b)) (sym same) ∙ next.same)

-- what an eligible interval has of the request where it ends
pub record EndsWith (h : Header) (fills : List Bool) (trace : List Object) (records : List Record) (i : Interval) : Type 0 where
  pub within : i.end < length trace
  pub size : i.size ≡ (request_at trace i.end).size
  pub gain : i.gain ≡ gain_of h.objective (request_at trace i.end)
  pub ends : ends_interval h (request_at trace i.end) (figures_at h fills trace records i.end) ≡ true

pub EndsWith-eligible : (h : Header) (fills : List Bool) (trace : List Object) (records : List Record) (i : Interval) → IsEligible (terms_of h fills) trace i → EndsWith h fills trace records i
EndsWith-eligible h fills trace records i e =
    let same : request_at trace i.start ≡ request_at trace i.end = same_object-true (request_at trace i.start) (request_at trace i.end) e.next.same in
    let size : i.size ≡ (request_at trace i.end).size = ap (λ (j : Interval). j.size) e.numbers ∙ ap (λ (x : Object). x.size) same in
    record {
      within = e.next.within;
      size = size;
      gain = ap (λ (j : Interval). j.gain) e.numbers;
      ends = and_from (was_requested trace i.end && counts_past h.warmup fills i.end) (nat_le (request_at trace i.end).size h.capacity)
          (and_from (was_requested trace i.end) (counts_past h.warmup fills i.end) (was_requested-again trace i.start i.end e.next) e.counts)
          (le-leb (request_at trace i.end).size h.capacity (subst (λ (x : Object). x.size ≤ h.capacity) same e.fits));
    }

-- a function of the intervals, paired with them
AllZip-map : {X Y : Type 0} (R : X → Y → Type 0) (f : X → Y) (xs : List X) → ((k : ℕ) (d : X) → k < length xs → R (get_or xs k d) (f (get_or xs k d))) → AllZip R xs (map f xs)
AllZip-map R f [] each = tt
AllZip-map R f (x ∷ xs) each = (each 0 x (omega arith), AllZip-map R f xs (λ k d low. each (suc k) d (omega arith)))

-- a request is the latest of its object at the end of the trace, or has a next one
latest_or_next : (trace : List Object) (a : ℕ) → a < length trace → (is_latest trace (length trace) a ≡ true) ⊎ ((b : ℕ) × IsNext trace a b)
latest_or_next trace a within = search (length trace - (a + 1)) (a + 1) (omega arith) (λ k low high. absurd (omega arith))
  where
    p : Object → Bool
    p = same_object (request_at trace a)

    search : (n j : ℕ) → j + n ≡ length trace → ((k : ℕ) → a < k → k < j → same_object (request_at trace a) (request_at trace k) ≡ false)
        → (is_latest trace (length trace) a ≡ true) ⊎ ((b : ℕ) × IsNext trace a b)
    search zero j end others =
        inl (ap not (list_any-range_false (same_object (request_at trace a)) trace no_object (a + 1) (length trace) (omega arith) (λ k low high. others k (omega arith) (omega arith))))
    search (suc n) j end others =
        ⊎_elim
        (λ (same : same_object (request_at trace a) (request_at trace j) ≡ true).
        ⊎_elim
        (λ (later : a < j). inr (j, record { before = later; within = omega arith; same = same; others = others }))
        (λ (not_later : j ≤ a). search n (j + 1) (omega arith) (λ k low high. absurd (omega arith)))
        (cases_lt a j))
        (λ (differs : same_object (request_at trace a) (request_at trace j) ≡ false).
        search n (j + 1) (omega arith) (λ k low high.
        ⊎_elim
        (λ (early : k < j). others k low early)
        (λ (late : j ≤ k). let here : j ≡ k = omega arith in ap (λ m. same_object (request_at trace a) (request_at trace m)) (sym here) ∙ differs)
        (cases_lt k j)))
        (cases_Bool (same_object (request_at trace a) (request_at trace j)))

-- what no number of a range passes
none-range : (p : ℕ → Bool) (n : ℕ) → find p (range_with_len 0 n) ≡ None → (a : ℕ) → a < n → p a ≡ false
none-range p n none a low =
    ⊎_elim
    (λ (passes : p a ≡ true). absurd (at 0 n (omega arith) (omega arith) passes none))
    (λ (fails : p a ≡ false). fails)
    (cases_Bool (p a))
  where
    at : (b k : ℕ) → b ≤ a → a < b + k → p a ≡ true → find p (range_with_len b k) ≡ None → ⊥
    at b zero from high passes none = absurd (omega arith)
    at b (suc k) from high passes none =
        ⊎_elim
        (λ (here : p b ≡ true). true≢false (ap is_some (sym (ap (λ t. cond t (Some b) (find p (range_with_len (b + 1) k))) here) ∙ none)))
        (λ (fails : p b ≡ false).
        let ne : b ≢ a = λ e. both_ways (p b) fails (ap p e ∙ passes) in
        at (b + 1) k (omega arith) (omega arith) passes (sym (ap (λ t. cond t (Some b) (find p (range_with_len (b + 1) k))) fails) ∙ none))
        (cases_Bool (p b))

module _ (h : Header) (fills : List Bool) (trace : List Object) (records : List Record) (cert : IsCertificate h records) (many : h.requests ≡ length trace)
    (no_record : (t : ℕ) → t < length trace → record_fault h fills trace records t ≡ None) (no_end : end_fault h fills trace records ≡ None) where
  one : length records ≡ length trace
  one = cert.count ∙ many

  passes : (t : ℕ) → t < length trace → Passes h (request_at trace t) (record_at records t) (figures_at h fills trace records t)
  passes t low = Passes-from_none h (request_at trace t) (record_at records t) (figures_at h fills trace records t) (no_record t low)

  end : EndPasses h (first_unused trace records) (counted_of h fills trace records)
  end = EndPasses-from_none h (first_unused trace records) (counted_of h fills trace records) no_end

  flow-is : (t : ℕ) → t < length trace → flow_at records t ≡ (record_at records t).flow
  flow-is t low = get_or-map (λ (r : Record). r.flow) records t (unpriced false) 0 (omega (arith, one))

  intervals : List Interval
  intervals = eligible_of trace fills h

  eligible : (k : ℕ) (d : Interval) → k < length (eligible_of trace fills h) → IsEligible (terms_of h fills) trace (get_or (eligible_of trace fills h) k d)
  eligible k d low = All-eligible_intervals (terms_of h fills) trace k d low

  sum_limit : units_of h * sum (prices_of records) ≤ 2 ^ 126
  sum_limit = at (length trace) refl
    where
      size : length (prices_of records) ≡ length trace
      size = length-map records (λ (r : Record). r.price) ∙ one

      at : (n : ℕ) → length trace ≡ n → units_of h * sum (prices_of records) ≤ 2 ^ 126
      at zero e = subst (λ ps. units_of h * sum ps ≤ 2 ^ 126) (take_all 0 (prices_of records) (omega (arith, size))) (omega arith)
      at (suc t) e =
          subst (λ ps. units_of h * sum ps ≤ 2 ^ 126) (take_all (t + 1) (prices_of records) (omega (arith, size)))
          (ltb-false (2 ^ 126) (units_of h * sum (take (t + 1) (prices_of records))) (passes t (omega arith)).prices)

  last_price : get_or (prices_of records) (length trace - 1) 0 ≡ 0
  last_price = at (length trace) refl
    where
      size : length (prices_of records) ≡ length trace
      size = length-map records (λ (r : Record). r.price) ∙ one

      at : (n : ℕ) → length trace ≡ n → get_or (prices_of records) (length trace - 1) 0 ≡ 0
      at zero e = get_or_past (prices_of records) (length trace - 1) 0 (omega (arith, size))
      at (suc t) e =
          let here : length trace - 1 ≡ t = omega arith in
          let is_last : (t + 1 == h.requests) ≡ true = eq-eqb (t + 1) h.requests (omega (arith, many)) in
          ap (λ k. get_or (prices_of records) k 0) here
          ∙ get_or-map (λ (r : Record). r.price) records t (unpriced false) 0 (omega (arith, one))
          ∙ equal_from_not (record_at records t).price 0 (second_from_and (t + 1 == h.requests) (not ((record_at records t).price == 0)) (passes t (omega arith)).last is_last)

  unit : All (λ i. h.unit ∣ i.size) (eligible_of trace fills h)
  unit k d low =
      let i : Interval = get_or (eligible_of trace fills h) k d in
      let w : EndsWith h fills trace records (get_or (eligible_of trace fills h) k d) = EndsWith-eligible h fills trace records (get_or (eligible_of trace fills h) k d) (eligible k d low) in
      let x : Object = request_at trace i.end in
      let test : divides h.unit (request_at trace i.end).size ≡ true =
      not-false _ (second_from_and (ends_interval h (request_at trace i.end) (figures_at h fills trace records i.end)) (not (divides h.unit (request_at trace i.end).size)) (passes i.end w.within).unit w.ends) in
      dvd_of_mod-eq-zero h.unit (ap (λ s. s % h.unit) w.size ∙ eqb-true ((request_at trace i.end).size % h.unit) 0 test)

  whole : IsTrue h.exact → HasWholeCosts (eligible_of trace fills h) h.unit h.denominator
  whole exact k d low =
      let i : Interval = get_or (eligible_of trace fills h) k d in
      let w : EndsWith h fills trace records (get_or (eligible_of trace fills h) k d) = EndsWith-eligible h fills trace records (get_or (eligible_of trace fills h) k d) (eligible k d low) in
      let x : Object = request_at trace i.end in
      let test : divides ((request_at trace i.end).size / h.unit) (h.denominator * gain_of h.objective (request_at trace i.end)) ≡ true =
      not-false _
      (second_from_and (ends_interval h (request_at trace i.end) (figures_at h fills trace records i.end) && h.exact)
      (not (divides ((request_at trace i.end).size / h.unit) (h.denominator * gain_of h.objective (request_at trace i.end))))
      (passes i.end w.within).whole (and_from _ _ w.ends exact)) in
      dvd_of_mod-eq-zero (weight h.unit i)
      (ap (λ s. h.denominator * i.gain % (s / h.unit)) w.size ∙ ap (λ g. h.denominator * g % ((request_at trace i.end).size / h.unit)) w.gain
      ∙ eqb-true (h.denominator * gain_of h.objective (request_at trace i.end) % ((request_at trace i.end).size / h.unit)) 0 test)

  loads : (t : ℕ) → t < length trace → load_after trace (keeps_of records) t ≤ h.capacity
  loads t low = ltb-false h.capacity (load_after trace (keeps_of records) t) (passes t low).load

  unused_flows : (t : ℕ) → list_any (λ i. i.start == t) (eligible_of trace fills h) ≡ false → flow_at records t ≡ 0
  unused_flows t none =
      ⊎_elim
      (λ (within : t < length trace).
      ⊎_elim
      (λ (latest : is_latest trace (length trace) t ≡ true).
      let unused : (is_latest trace (length trace) t && nat_lt 0 (flow_at records t)) ≡ false =
      none-range (λ a. is_latest trace (length trace) a && nat_lt 0 (flow_at records a)) (length trace) end.no_flow t within in
      omega (arith, ltb-false 0 (flow_at records t) (second_from_and _ _ unused latest)))
      (λ (next : (b : ℕ) × IsNext trace t b). started next.0 next.1 within)
      (latest_or_next trace t within))
      (λ (past : length trace ≤ t). get_or_past (map (λ (r : Record). r.flow) records) t 0 (omega (arith, length-map records (λ (r : Record). r.flow), one)))
      (cases_lt t (length trace))
    where
      counted : (b : ℕ) → IsNext trace t b → t < length trace → counts_past h.warmup fills b ≡ true → flow_at records t ≡ 0
      counted b next within over =
          ⊎_elim
          (λ (large : h.capacity < (request_at trace t).size).
          let flow : (record_at records t).flow ≤ weight_in h (request_at trace t) = ltb-false (weight_in h (request_at trace t)) (record_at records t).flow (passes t within).flow in
          let nothing : weight_in h (request_at trace t) ≡ 0 = ap (λ b. cond b ((request_at trace t).size / h.unit) 0) (lt-leb (request_at trace t).size h.capacity large) in
          omega (arith, flow-is t within))
          (λ (fits : (request_at trace t).size ≤ h.capacity).
          let i : Interval = interval_of h.objective trace t b in
          let there = Contains-eligible (terms_of h fills) trace (interval_of h.objective trace t b) (record { next = next; fits = fits; counts = over; numbers = refl }) in
          absurd (both_ways _ none
          (list_any_at (λ i. i.start == t) (eligible_of trace fills h) there.0 (interval_of h.objective trace t b) there.1 (ap (λ (j : Interval). j.start == t) there.2 ∙ eq-eqb t t refl))))
          (cases_lt h.capacity (request_at trace t).size)

      started : (b : ℕ) → IsNext trace t b → t < length trace → flow_at records t ≡ 0
      started b next within =
          ⊎_elim
          (λ (uncounted : counts_past h.warmup fills b ≡ false).
          let unused : unused_before h fills trace records b ≡ None = (passes b next.within).unused in
          let found : find (has_flow_until trace records b) (range_with_len 0 b) ≡ None = ap (λ c. cond c None (find (has_flow_until trace records b) (range_with_len 0 b))) (sym uncounted) ∙ unused in
          no_flow-found (flow_at records t) (sym (find-next trace b t next records) ∙ found))
          (λ (over : counts_past h.warmup fills b ≡ true). counted b next within over)
          (cases_either (counts_past h.warmup fills b))
        where
          cases_either : (t : Bool) → (t ≡ false) ⊎ (t ≡ true)
          cases_either true = inr refl
          cases_either false = inl refl

          no_flow-found : (f : ℕ) → cond (nat_lt 0 f) (Some t) None ≡ None → f ≡ 0
          no_flow-found zero e = refl
          no_flow-found (suc f) e = absurd (true≢false (ap is_some (ap (λ c. cond c (Some t) None) (sym (lt-ltb 0 (suc f) (omega arith))) ∙ e)))

  within_weights : AllZip (λ i f. f ≤ weight h.unit i) (eligible_of trace fills h) (flows_of (eligible_of trace fills h) records)
  within_weights = AllZip-map (λ i f. f ≤ weight h.unit i) (λ i. flow_at records i.start) (eligible_of trace fills h) each
    where
      each : (k : ℕ) (d : Interval) → k < length (eligible_of trace fills h) → flow_at records (get_or (eligible_of trace fills h) k d).start ≤ weight h.unit (get_or (eligible_of trace fills h) k d)
      each k d low =
          let i : Interval = get_or (eligible_of trace fills h) k d in
          let e : IsEligible (terms_of h fills) trace (get_or (eligible_of trace fills h) k d) = eligible k d low in
          let before : i.start < i.end = e.next.before in
          let within : i.end < length trace = e.next.within in
          let flow : (record_at records i.start).flow ≤ weight_in h (request_at trace i.start) = ltb-false (weight_in h (request_at trace i.start)) (record_at records i.start).flow (passes i.start (omega arith)).flow in
          let own : weight_in h (request_at trace i.start) ≡ weight h.unit i =
          ap (λ b. cond b ((request_at trace i.start).size / h.unit) 0) (le-leb (request_at trace i.start).size h.capacity e.fits)
          ∙ ap (λ s. s / h.unit) (sym (ap (λ (j : Interval). j.size) e.numbers)) in
          omega (arith, flow-is i.start (omega arith))

  within_units : (t : ℕ) → load_at (eligible_of trace fills h) (flows_of (eligible_of trace fills h) records) t ≤ units_of h
  within_units t =
      ⊎_elim
      (λ (within : t < length trace).
      omega (
        arith,
        load-latest (terms_of h fills) trace (flow_at records) t unused_flows within,
        ltb-false (units_of h) (latest_sum trace (flow_at records) (t + 1)) (passes t within).flows,
      ))
      (λ (past : length trace ≤ t).
      omega (
        arith,
        load_at-map (λ i. flow_at records i.start) t (eligible_of trace fills h),
        sum_by-none (λ i. cond (covers t i) (flow_at records i.start) 0) (eligible_of trace fills h)
            (λ k d low.
            let i : Interval = get_or (eligible_of trace fills h) k d in
            let e : IsEligible (terms_of h fills) trace (get_or (eligible_of trace fills h) k d) = eligible k d low in
            let high : i.end < length trace = e.next.within in
            ap (λ b. cond b (flow_at records i.start) 0) (and_right (nat_le i.start t) (nat_lt t i.end) (le-ltb t i.end (omega arith)))),
      ))
      (cases_lt t (length trace))

  -- every part of validity
  pub IsValid-faultless : IsValid trace fills h records
  IsValid-faultless = record {
    certificate = cert;
    requests = many;
    sum_limit = sum_limit;
    last_price = last_price;
    unit = unit;
    keeps = allowed-from_loads trace h.capacity (keeps_of records) loads;
    lower = end.lower;
    unused_flows = unused_flows;
    flows = record { within_weights = within_weights; within_units = within_units };
    flow = end.flow;
    upper = end.upper;
    whole_costs = whole;
    exact_values = λ exact. end.upper ∙ end.gap exact ∙ sym end.flow;
  }
