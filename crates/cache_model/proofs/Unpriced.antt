-- Certificates whose prices and flows are all 0, and what bounds every unit and every list of intervals.
use Rattle.std.proofs.Common.{◌≡◌, ℕ, zero, suc, ◌+◌, ◌-◌, ◌*◌, ◌/◌, ◌<◌, ◌≤◌, ◌∙◌, sym, refl, ap, subst, cond, ◌&&◌, arith, Bool, true, false, List, [], ◌∷◌, length, map, zip, take, drop, replicate, get_or, slice_range, sum, sum_by, All, AllPairs}
use Rattle.std.specs.List.{range_with_len, AllZip}
use Prim.Native.Nat.{◌∣◌}
use Rattle.std.proofs.Math.Nat.{pos_of_dvd_of_pos}
use Rattle.std.proofs.lemmas.Nat.Gcd.{le_of_dvd}
use Rattle.std.proofs.lemmas.Bool.{both_ways, and_left, and_right}
use Rattle.std.proofs.lemmas.List.{length-map, drop-replicate}
use Rattle.std.proofs.lemmas.List.Folds.{sum_by-replicate}
use Rattle.std.proofs.lemmas.List.Sums.{sum_by-cons, sum_by-take-le}
use Rattle.std.proofs.lemmas.List.Elements.{All-head, All-tail, All-map, All-weaker}
use Rattle.cache_model.specs.declared.objects.Object.{Object}
use Rattle.cache_model.specs.declared.intervals.Interval.{Interval}
use Rattle.cache_model.specs.declared.certificates.Header.{Header}
use Rattle.cache_model.specs.Claim.{Terms, counts, holds, gain_of, total_size, IsAllowed, score, terms_of, request_at, no_object, is_kept, is_latest, is_held, held_before, contents_of}
use Rattle.cache_model.specs.Objects.{IsNext}
use Rattle.cache_model.specs.Intervals.{surplus, eligible_intervals}
use Rattle.cache_model.specs.Units.{weight, IsUnit}
use Rattle.cache_model.specs.Schedules.{covers, load_at, flow_value}
use Rattle.cache_model.specs.Certificates.{IsHeaderInRange, IsRecordInRange, unpriced, prices_of, keeps_of, flow_at, flows_of, eligible_of, units_of, upper_of, IsValid}
use Rattle.cache_model.specs.Laws.{IsEligible}
use Rattle.cache_model.proofs.Scores.{score-requests, earned_at}
use Rattle.cache_model.proofs.Sums.{sum_by-nothing, sum_by-agree}
use Rattle.cache_model.proofs.Eligible.{filter-range_none}
use Rattle.cache_model.proofs.Keeps.{contents_of_keeps}
use Rattle.cache_model.proofs.Members.{All-eligible_intervals, intervals_are_eligible}

-- the keeps of the records are the keeps
pub keeps_of-unpriced : (keeps : List Bool) → keeps_of (map unpriced keeps) ≡ keeps
keeps_of-unpriced [] = refl
keeps_of-unpriced (keep ∷ keeps) = ap (λ more. keep ∷ more) (keeps_of-unpriced keeps)

-- each price is 0
prices_of-unpriced : (keeps : List Bool) → prices_of (map unpriced keeps) ≡ replicate (length keeps) 0
prices_of-unpriced [] = refl
prices_of-unpriced (keep ∷ keeps) = ap (λ more. 0 ∷ more) (prices_of-unpriced keeps)

-- the price of any step is 0, also past the end
price_at-unpriced : (keeps : List Bool) (t : ℕ) → get_or (prices_of (map unpriced keeps)) t 0 ≡ 0
price_at-unpriced [] t = refl
price_at-unpriced (keep ∷ keeps) zero = refl
price_at-unpriced (keep ∷ keeps) (suc t) = price_at-unpriced keeps t

-- the flow of any record is 0, also past the end
flow_at-unpriced : (keeps : List Bool) (t : ℕ) → flow_at (map unpriced keeps) t ≡ 0
flow_at-unpriced [] t = refl
flow_at-unpriced (keep ∷ keeps) zero = refl
flow_at-unpriced (keep ∷ keeps) (suc t) = flow_at-unpriced keeps t

-- the prices sum to 0
sum-unpriced : (keeps : List Bool) → sum (prices_of (map unpriced keeps)) ≡ 0
sum-unpriced keeps = ap sum (prices_of-unpriced keeps) ∙ omega (arith, sum_by-replicate (λ (n : ℕ). n) (length keeps) 0)

-- the prices of any steps sum to 0
sum_range-unpriced : (keeps : List Bool) (a b : ℕ) → sum (slice_range (prices_of (map unpriced keeps)) a b) ≡ 0
sum_range-unpriced keeps a b =
    let n : ℕ = length keeps in
    ap (λ prices. sum (take (b - a) (drop a prices))) (prices_of-unpriced keeps)
    ∙ ap (λ prices. sum (take (b - a) prices)) (drop-replicate a n 0)
    ∙ omega (arith, sum_by-take-le (λ (p : ℕ). p) (replicate (n - a) 0) (b - a), sum_by-replicate (λ (p : ℕ). p) (n - a) 0)

-- the records are in range
unpriced_in_range : (keeps : List Bool) → All IsRecordInRange (map unpriced keeps)
unpriced_in_range keeps = All-map IsRecordInRange unpriced keeps (λ k d lt. record { price = omega arith; flow = omega arith })

-- a surplus without prices is the whole gain
surplus-unpriced : (unit denominator : ℕ) (keeps : List Bool) (i : Interval) → surplus unit denominator (prices_of (map unpriced keeps)) i ≡ denominator * i.gain
surplus-unpriced unit denominator keeps i =
    let price : ℕ = sum (slice_range (prices_of (map unpriced keeps)) i.start i.end) in
    let none : weight unit i * price ≡ weight unit i * 0 = ap (λ p. weight unit i * p) (sum_range-unpriced keeps i.start i.end) in
    omega (arith, none)

-- without prices the bound is the sum of the gains of the eligible intervals, over the denominator
upper_unpriced : (trace : List Object) (fills : List Bool) (h : Header) (keeps : List Bool) → upper_of trace fills h (map unpriced keeps) ≡ sum_by (λ i. h.denominator * i.gain) (eligible_of trace fills h)
upper_unpriced trace fills h keeps =
    let prices : List ℕ = prices_of (map unpriced keeps) in
    let none : units_of h * sum prices ≡ units_of h * 0 = ap (λ n. units_of h * n) (sum-unpriced keeps) in
    let whole : sum_by (surplus h.unit h.denominator prices) (eligible_of trace fills h) ≡ sum_by (λ i. h.denominator * i.gain) (eligible_of trace fills h) =
    sum_by-agree (surplus h.unit h.denominator prices) (λ i. h.denominator * i.gain) (eligible_of trace fills h) (surplus-unpriced h.unit h.denominator keeps) in
    omega (arith, none, whole)

-- without prices, over the denominator 1, the bound is the sum of the gains of the eligible intervals
pub upper_of_gains : (trace : List Object) (fills : List Bool) (h : Header) (keeps : List Bool) → h.denominator ≡ 1 → upper_of trace fills h (map unpriced keeps) ≡ sum_by (λ i. i.gain) (eligible_of trace fills h)
upper_of_gains trace fills h keeps one =
    upper_unpriced trace fills h keeps
    ∙ sum_by-agree (λ i. h.denominator * i.gain) (λ i. i.gain) (eligible_of trace fills h) (λ i. ap (λ d. d * i.gain) one ∙ omega arith)

-- each flow is at most its interval's weight
flows_within_weights : (unit : ℕ) (keeps : List Bool) (intervals : List Interval) → AllZip (λ i f. f ≤ weight unit i) intervals (flows_of intervals (map unpriced keeps))
flows_within_weights unit keeps [] = tt
flows_within_weights unit keeps (i ∷ intervals) = (omega (arith, flow_at-unpriced keeps i.start), flows_within_weights unit keeps intervals)

-- a choice between nothing and nothing
cond-nothing : (b : Bool) (f : ℕ) → f ≡ 0 → cond b f 0 ≡ 0
cond-nothing true f e = e
cond-nothing false f e = refl

-- the load of any step is 0
load_at-unpriced : (keeps : List Bool) (t : ℕ) (intervals : List Interval) → load_at intervals (flows_of intervals (map unpriced keeps)) t ≡ 0
load_at-unpriced keeps t [] = refl
load_at-unpriced keeps t (i ∷ intervals) =
    let term : Interval × ℕ → ℕ = λ (j, f). cond (covers t j) f 0 in
    let flow : ℕ = flow_at (map unpriced keeps) i.start in
    let first : cond (covers t i) flow 0 ≡ 0 = cond-nothing (covers t i) flow (flow_at-unpriced keeps i.start) in
    omega (arith, sum_by-cons term (i, flow) (zip intervals (flows_of intervals (map unpriced keeps))), first, load_at-unpriced keeps t intervals)

-- the flows are worth 0
flow_value-unpriced : (unit denominator : ℕ) (keeps : List Bool) (intervals : List Interval) → flow_value intervals unit denominator (flows_of intervals (map unpriced keeps)) ≡ 0
flow_value-unpriced unit denominator keeps [] = refl
flow_value-unpriced unit denominator keeps (i ∷ intervals) =
    let term : Interval × ℕ → ℕ = λ (j, f). (denominator * j.gain / weight unit j) * f in
    let flow : ℕ = flow_at (map unpriced keeps) i.start in
    let rate : ℕ = denominator * i.gain / weight unit i in
    let first : rate * flow ≡ rate * 0 = ap (λ f. rate * f) (flow_at-unpriced keeps i.start) in
    omega (arith, sum_by-cons term (i, flow) (zip intervals (flows_of intervals (map unpriced keeps))), first, flow_value-unpriced unit denominator keeps intervals)

-- the records without prices and flows are a valid certificate, with the header of their numbers
pub unpriced_valid : (trace : List Object) (fills : List Bool) (h : Header) (keeps : List Bool)
    → IsHeaderInRange h → h.requests ≡ length trace → length keeps ≡ length trace → h.exact ≡ false
    → All (λ i. h.unit ∣ i.size) (eligible_of trace fills h)
    → IsAllowed h.capacity trace (contents_of trace keeps)
    → h.lower ≡ score (terms_of h fills) trace (contents_of trace keeps)
    → h.flow ≡ 0
    → h.upper ≡ upper_of trace fills h (map unpriced keeps)
    → IsValid trace fills h (map unpriced keeps)
unpriced_valid trace fills h keeps in_range requests one_keep_each plain unit allowed lower flow upper =
    let same : keeps ≡ keeps_of (map unpriced keeps) = sym (keeps_of-unpriced keeps) in
    let none : units_of h * sum (prices_of (map unpriced keeps)) ≡ units_of h * 0 = ap (λ n. units_of h * n) (sum-unpriced keeps) in
    record {
      certificate = record { header = in_range; count = length-map keeps unpriced ∙ one_keep_each ∙ sym requests; each = unpriced_in_range keeps };
      requests = requests;
      sum_limit = omega (arith, none);
      last_price = price_at-unpriced keeps (length trace - 1);
      unit = unit;
      keeps = subst (λ kept. IsAllowed h.capacity trace (contents_of trace kept)) same allowed;
      lower = lower ∙ ap (λ kept. score (terms_of h fills) trace (contents_of trace kept)) same;
      unused_flows = λ t none. flow_at-unpriced keeps t;
      flows = record {
        within_weights = flows_within_weights h.unit keeps (eligible_of trace fills h);
        within_units = λ t. omega (arith, load_at-unpriced keeps t (eligible_of trace fills h));
      };
      flow = flow ∙ sym (flow_value-unpriced h.unit h.denominator keeps (eligible_of trace fills h));
      upper = upper;
      whole_costs = λ exact. absurd (both_ways h.exact plain exact);
      exact_values = λ exact. absurd (both_ways h.exact plain exact);
    }

-- none of them keeps a request, also past the end
is_kept-nothing : (n t : ℕ) → is_kept (replicate n false) t ≡ false
is_kept-nothing zero t = refl
is_kept-nothing (suc n) zero = refl
is_kept-nothing (suc n) (suc t) = is_kept-nothing n t

-- nothing is held before any request
held_before-nothing : (trace : List Object) (n t : ℕ) → held_before trace (replicate n false) t ≡ []
held_before-nothing trace n t =
    ap (map (request_at trace))
    (filter-range_none (is_held trace (replicate n false) t) 0 t (λ a low high. and_left (is_kept (replicate n false) a) (is_latest trace t a) (is_kept-nothing n a)))

-- where nothing is kept, the contents are allowed at any capacity
pub nothing_kept_allowed : (trace : List Object) (capacity : ℕ) → IsAllowed capacity trace (contents_of trace (replicate (length trace) false))
nothing_kept_allowed trace capacity =
    contents_of_keeps trace capacity (replicate (length trace) false)
    (λ t within. omega (arith, ap total_size (held_before-nothing trace (length trace) t)))

-- if nothing is kept, nothing is earned
pub nothing_kept_score : (terms : Terms) (trace : List Object) → score terms trace (contents_of trace (replicate (length trace) false)) ≡ 0
nothing_kept_score terms trace =
    let keeps : List Bool = replicate (length trace) false in
    score-requests terms trace keeps
    ∙ sum_by-nothing (earned_at terms trace keeps) (range_with_len 0 (length trace))
    (λ t. ap (λ held. cond (counts terms t && holds held (request_at trace t)) (gain_of terms.objective (request_at trace t)) 0) (held_before-nothing trace (length trace) t)
    ∙ ap (λ b. cond b (gain_of terms.objective (request_at trace t)) 0) (and_right (counts terms t) false refl))

-- the unit of sizes from 1 to the capacity is from 1 to the capacity
unit_within : (capacity u : ℕ) (intervals : List Interval) → 1 ≤ capacity → All (λ i. (1 ≤ i.size) × (i.size ≤ capacity)) intervals → IsUnit intervals u → (1 ≤ u) × (u ≤ capacity)
unit_within capacity u [] some sizes is_unit = let one : u ≡ 1 = is_unit.one_if_none refl in (omega arith, omega arith)
unit_within capacity u (i ∷ rest) some sizes is_unit =
    let Fits : Interval → Type 0 = λ j. (1 ≤ j.size) × (j.size ≤ capacity) in
    let Divides : Interval → Type 0 = λ j. u ∣ j.size in
    let size : (1 ≤ i.size) × (i.size ≤ capacity) = All-head Fits i rest sizes in
    let divides : u ∣ i.size = All-head Divides i rest is_unit.divides in
    let positive : 0 < i.size = omega arith in
    let some_unit : 0 < u = pos_of_dvd_of_pos divides positive in
    let within : u ≤ i.size = le_of_dvd positive divides in
    (omega arith, omega arith)

-- where each request has a size of 1 or more, the unit of the eligible intervals is from 1 to the capacity
pub unit-le_capacity : (terms : Terms) (trace : List Object) (u : ℕ)
    → IsUnit (eligible_intervals terms trace) u → 1 ≤ terms.capacity → All (λ x. 1 ≤ x.size) trace → (1 ≤ u) × (u ≤ terms.capacity)
unit-le_capacity terms trace u is_unit some sizes =
    unit_within terms.capacity u (eligible_intervals terms trace) some
    (All-weaker (IsEligible terms trace) (λ i. (1 ≤ i.size) × (i.size ≤ terms.capacity)) each (eligible_intervals terms trace) (All-eligible_intervals terms trace))
    is_unit
  where
    each : (i : Interval) → IsEligible terms trace i → (1 ≤ i.size) × (i.size ≤ terms.capacity)
    each i e =
        let next : IsNext trace i.start i.end = e.next in
        let size : i.size ≡ (request_at trace i.start).size = ap (λ j. j.size) e.numbers in
        let within : i.start < length trace = omega (arith, next.before, next.within) in
        let positive : 1 ≤ (request_at trace i.start).size = sizes i.start no_object within in
        (omega (arith, size, positive), omega (arith, size, e.fits))

-- intervals whose starts rise from a to before n are at most n - a
rising-le : (a n : ℕ) (intervals : List Interval) → a ≤ n → AllPairs (λ i j. i.start < j.start) intervals → All (λ i. (a ≤ i.start) × (i.start < n)) intervals → a + length intervals ≤ n
rising-le a n [] room rising within = omega arith
rising-le a n (i ∷ rest) room rising within =
    let first : (a ≤ i.start) × (i.start < n) = All-head (λ (j : Interval). (a ≤ j.start) × (j.start < n)) i rest within in
    let later : All (λ (j : Interval). (a ≤ j.start) × (j.start < n)) rest = All-tail (λ (j : Interval). (a ≤ j.start) × (j.start < n)) i rest within in
    let more : suc i.start + length rest ≤ n =
    rising-le (suc i.start) n rest (omega arith)
    (λ j k d low high. rising (suc j) (suc k) d (omega arith) (omega arith))
    (λ k d lt. (rising 0 (suc k) d (omega arith) (omega arith), (later k d lt).1)) in
    omega arith

-- there are at most as many eligible intervals as requests
pub eligible-le : (terms : Terms) (trace : List Object) → length (eligible_intervals terms trace) ≤ length trace
eligible-le terms trace =
    let bound : 0 + length (eligible_intervals terms trace) ≤ length trace =
    rising-le 0 (length trace) (eligible_intervals terms trace) (omega arith)
    (intervals_are_eligible terms trace).in_order
    (All-weaker (IsEligible terms trace) (λ i. (0 ≤ i.start) × (i.start < length trace))
    (λ i e. let next : IsNext trace i.start i.end = e.next in (omega arith, omega (arith, next.before, next.within)))
    (eligible_intervals terms trace) (All-eligible_intervals terms trace)) in
    omega (arith, bound)
