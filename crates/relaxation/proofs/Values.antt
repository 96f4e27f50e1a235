-- The value of flows, one interval after another.
use Rattle.std.proofs.Common.{◌≡◌, ◌∙◌, ℕ, zero, suc, ◌+◌, ◌*◌, ◌/◌, ◌<◌, ◌≤◌, ◌^◌, ap, refl, arith, List, [], ◌∷◌, length, drop, get_or, zip, drop-cons, All}
use Rattle.std.specs.List.{AllZip}
use Rattle.std.proofs.lemmas.List.{drop_all}
use Rattle.std.proofs.lemmas.List.Sums.{sum_by-cons}
use Rattle.std.proofs.Math.Nat.{mul-le-mul_left, mul-le-mul_right, div-mul-le_self}
use Rattle.cache_model.specs.declared.intervals.Interval.{Interval}
use Rattle.cache_model.specs.Schedules.{flow_value}
use Rattle.cache_model.specs.Units.{weight}
use Rattle.interval_maker.specs.Timelines.{no_interval}
use Rattle.relaxation.specs.Faults.{weight_at}

-- flows that are within the weights one by one are as many as the intervals, and within them at each place
pub within_at : (unit : ℕ) (intervals : List Interval) (flows : List ℕ) → AllZip (λ i f. f ≤ weight unit i) intervals flows
    → (length flows ≡ length intervals) × ((n : ℕ) → n < length intervals → get_or flows n 0 ≤ weight_at intervals unit n)
within_at unit [] [] low = (refl, λ n h. absurd (omega arith))
within_at unit [] (f ∷ flows) low = absurd low
within_at unit (i ∷ intervals) [] low = absurd low
within_at unit (i ∷ intervals) (f ∷ flows) low = (omega (arith, (within_at unit intervals flows low.1).0), at (within_at unit intervals flows low.1).1)
  where
    at : ((n : ℕ) → n < length intervals → get_or flows n 0 ≤ weight_at intervals unit n) → (n : ℕ) → n < length (i ∷ intervals) → get_or (f ∷ flows) n 0 ≤ weight_at (i ∷ intervals) unit n
    at later zero h = low.0
    at later (suc n) h = later n (omega arith)

-- what an interval's flow is worth is at most its whole gain
pub worth-le : (d gain w f : ℕ) → f ≤ w → (d * gain / w) * f ≤ d * gain
worth-le d gain w f low = omega (arith, mul-le-mul_left (d * gain / w) low, div-mul-le_self (d * gain) w)

pub gain-le : (d gain : ℕ) → d ≤ 2 ^ 48 → gain ≤ 2 ^ 48 → d * gain ≤ 2 ^ 96
gain-le d gain small few = omega (arith, mul-le-mul_right gain small, mul-le-mul_left (2 ^ 48) few)

-- the value of the flows from place k on is that of the one there and of those after it
pub value_from : (unit d : ℕ) (intervals : List Interval) (flows : List ℕ) (k : ℕ) → k < length intervals → k < length flows
    → flow_value (drop k intervals) unit d (drop k flows)
    ≡ (d * (get_or intervals k no_interval).gain / weight_at intervals unit k) * get_or flows k 0 + flow_value (drop (k + 1) intervals) unit d (drop (k + 1) flows)
value_from unit d intervals flows k here there =
    let next : suc k ≡ k + 1 = omega arith in
    let first : drop k intervals ≡ get_or intervals k no_interval ∷ drop (k + 1) intervals = drop-cons intervals k no_interval here ∙ ap (λ n. get_or intervals k no_interval ∷ drop n intervals) next in
    let second : drop k flows ≡ get_or flows k 0 ∷ drop (k + 1) flows = drop-cons flows k 0 there ∙ ap (λ n. get_or flows k 0 ∷ drop n flows) next in
    ap (λ xs. flow_value xs unit d (drop k flows)) first
    ∙ ap (λ ys. flow_value (get_or intervals k no_interval ∷ drop (k + 1) intervals) unit d ys) second
    ∙ sum_by-cons (λ (p : Interval × ℕ). (d * p.0.gain / weight unit p.0) * p.1) (get_or intervals k no_interval, get_or flows k 0) (zip (drop (k + 1) intervals) (drop (k + 1) flows))

-- one more interval: what its flow is worth, and the value so far with it
pub record IsWorth (unit d : ℕ) (intervals : List Interval) (flows : List ℕ) (k value : ℕ) : Type 0 where
  pub small : (d * (get_or intervals k no_interval).gain / weight_at intervals unit k) * get_or flows k 0 ≤ 2 ^ 96
  pub more : value + flow_value (drop k intervals) unit d (drop k flows) ≡ flow_value intervals unit d flows
      → value + (d * (get_or intervals k no_interval).gain / weight_at intervals unit k) * get_or flows k 0 + flow_value (drop (k + 1) intervals) unit d (drop (k + 1) flows) ≡ flow_value intervals unit d flows

pub worth_of : (unit d : ℕ) (intervals : List Interval) (flows : List ℕ) (k value : ℕ) → AllZip (λ i f. f ≤ weight unit i) intervals flows → All (λ i. i.gain ≤ 2 ^ 48) intervals → d ≤ 2 ^ 48
    → k < length intervals → IsWorth unit d intervals flows k value
worth_of unit d intervals flows k value low gains few here =
    let each = within_at unit intervals flows low in
    let i : Interval = get_or intervals k no_interval in
    record {
      small = omega (arith, worth-le d i.gain (weight unit i) (get_or flows k 0) (each.1 k here), gain-le d i.gain few (gains k no_interval here));
      more = λ so_far. omega (arith, so_far, value_from unit d intervals flows k here (omega (arith, each.0)));
    }

-- once all intervals are done
pub value_all : (unit d : ℕ) (intervals : List Interval) (flows : List ℕ) (k value : ℕ) → length intervals ≤ k
    → value + flow_value (drop k intervals) unit d (drop k flows) ≡ flow_value intervals unit d flows → value ≡ flow_value intervals unit d flows
value_all unit d intervals flows k value past so_far =
    let none : flow_value (drop k intervals) unit d (drop k flows) ≡ 0 = ap (λ xs. flow_value xs unit d (drop k flows)) (drop_all k intervals past) in
    omega arith
