-- The instance of all intervals: its values are those of the intervals, up to the rounding of costs.
use Rattle.std.proofs.Common.{◌≡◌, ℕ, zero, ◌+◌, ◌*◌, ◌/◌, ◌%◌, ◌<◌, ◌≤◌, refl, ap, min, cond, List, [], ◌∷◌, map, arith, sum, sum_by, zip, All}
use Rattle.std.specs.List.{AllZip}
use Rattle.std.proofs.Math.Nat.{mul-le-mul_right}
use Rattle.std.proofs.lemmas.List.Sums.{sum_by-cons}
use Rattle.std.proofs.lemmas.List.Elements.{All-head, All-tail}
use Rattle.std.proofs.lemmas.Grind.{div_ceil_times}
use Rattle.std.proofs.lemmas.Nat.Gcd.{mod-eq-zero_of_dvd}
use Prim.Native.Nat.{◌∣◌}
use Rattle.cache_model.specs.declared.intervals.Interval.{Interval}
use Rattle.cache_model.specs.Intervals.{bound_of, surplus as interval_surplus}
use Rattle.cache_model.specs.Schedules.{covers as interval_covers, load_at as interval_load, flow_value, IsFractionalSchedule}
use Rattle.cache_model.specs.Units.{weight, HasWholeCosts}
use Rattle.cache_model.proofs.Flows.{flow_value-le}
use Rattle.flow_model.specs.declared.arcs.OuterArc.{OuterArc}
use Rattle.flow_model.specs.Instances.{arc_of, whole_instance, surplus, covers, load_at, total_cost, IsSchedule, IsSolution}

-- n over w, rounded down and up
floor_below : (n w : ℕ) → 0 < w → w * (n / w) ≤ n
floor_below n w some = omega arith

ceil_above : (n w : ℕ) → 0 < w → n ≤ w * (n / w + min 1 (n % w))
ceil_above n w some = omega (arith, (div_ceil_times n w some).0)

ceil_exact : (n w : ℕ) → 0 < w → w ∣ n → (n / w + min 1 (n % w) ≡ n / w) × (w * (n / w) ≡ n)
ceil_exact n w some divides = let none : n % w ≡ zero = mod-eq-zero_of_dvd w divides in (omega (arith, none), omega (arith, none))

module _ (unit denominator : ℕ) (prices : List ℕ) where
  surplus_below : (intervals : List Interval) → All (λ i. 0 < weight unit i) intervals
      → sum_by (interval_surplus unit denominator prices) intervals ≤ sum_by (surplus prices) (map (arc_of unit denominator) intervals)
  surplus_below [] some = omega arith
  surplus_below (i ∷ intervals) some =
      let n : ℕ = denominator * i.gain in
      let w : ℕ = weight unit i in
      omega (
        arith,
        ceil_above n w (All-head (λ j. 0 < weight unit j) i intervals some),
        surplus_below intervals (All-tail (λ j. 0 < weight unit j) i intervals some),
        sum_by-cons (interval_surplus unit denominator prices) i intervals,
        sum_by-cons (surplus prices) (arc_of unit denominator i) (map (arc_of unit denominator) intervals),
      )

  surplus_exact : (intervals : List Interval) → All (λ i. 0 < weight unit i) intervals → HasWholeCosts intervals unit denominator
      → sum_by (interval_surplus unit denominator prices) intervals ≡ sum_by (surplus prices) (map (arc_of unit denominator) intervals)
  surplus_exact [] some exact = refl
  surplus_exact (i ∷ intervals) some exact =
      let n : ℕ = denominator * i.gain in
      let w : ℕ = weight unit i in
      let one = ceil_exact n w (All-head (λ j. 0 < weight unit j) i intervals some) (All-head (λ j. weight unit j ∣ denominator * j.gain) i intervals exact) in
      omega (
        arith,
        ap (λ m. w * m) one.0,
        one.1,
        surplus_exact intervals (All-tail (λ j. 0 < weight unit j) i intervals some) (All-tail (λ j. weight unit j ∣ denominator * j.gain) i intervals exact),
        sum_by-cons (interval_surplus unit denominator prices) i intervals,
        sum_by-cons (surplus prices) (arc_of unit denominator i) (map (arc_of unit denominator) intervals),
      )

cost_above : (unit denominator : ℕ) (intervals : List Interval) (flows : List ℕ) → total_cost (map (arc_of unit denominator) intervals) flows ≤ flow_value intervals unit denominator flows + sum flows
cost_above unit denominator [] flows = omega arith
cost_above unit denominator (i ∷ intervals) [] = omega arith
cost_above unit denominator (i ∷ intervals) (f ∷ flows) =
    let n : ℕ = denominator * i.gain in
    let w : ℕ = weight unit i in
    let earn : OuterArc × ℕ → ℕ = λ (arc, f). arc.cost * f in
    let worth : Interval × ℕ → ℕ = λ (i, f). (denominator * i.gain / weight unit i) * f in
    let one : (n / w + min 1 (n % w)) * f ≤ (n / w + 1) * f = mul-le-mul_right f (omega arith) in
    omega (
      arith,
      one,
      cost_above unit denominator intervals flows,
      sum_by-cons earn (arc_of unit denominator i, f) (zip (map (arc_of unit denominator) intervals) flows),
      sum_by-cons worth (i, f) (zip intervals flows),
      sum_by-cons (λ (m : ℕ). m) f flows,
    )

cost_exact : (unit denominator : ℕ) (intervals : List Interval) (flows : List ℕ) → All (λ i. 0 < weight unit i) intervals → HasWholeCosts intervals unit denominator
    → total_cost (map (arc_of unit denominator) intervals) flows ≡ flow_value intervals unit denominator flows
cost_exact unit denominator [] flows some exact = refl
cost_exact unit denominator (i ∷ intervals) [] some exact = refl
cost_exact unit denominator (i ∷ intervals) (f ∷ flows) some exact =
    let n : ℕ = denominator * i.gain in
    let w : ℕ = weight unit i in
    let earn : OuterArc × ℕ → ℕ = λ (arc, f). arc.cost * f in
    let worth : Interval × ℕ → ℕ = λ (i, f). (denominator * i.gain / weight unit i) * f in
    let one = (ceil_exact n w (All-head (λ j. 0 < weight unit j) i intervals some) (All-head (λ j. weight unit j ∣ denominator * j.gain) i intervals exact)).0 in
    omega (
      arith,
      ap (λ m. m * f) one,
      cost_exact unit denominator intervals flows (All-tail (λ j. 0 < weight unit j) i intervals some) (All-tail (λ j. weight unit j ∣ denominator * j.gain) i intervals exact),
      sum_by-cons earn (arc_of unit denominator i, f) (zip (map (arc_of unit denominator) intervals) flows),
      sum_by-cons worth (i, f) (zip intervals flows),
    )

same_load : (unit denominator : ℕ) (intervals : List Interval) (flows : List ℕ) (t : ℕ) → load_at (map (arc_of unit denominator) intervals) flows t ≡ interval_load intervals flows t
same_load unit denominator [] flows t = refl
same_load unit denominator (i ∷ intervals) [] t = refl
same_load unit denominator (i ∷ intervals) (f ∷ flows) t =
    let carried : OuterArc × ℕ → ℕ = λ (arc, f). cond (covers t arc) f 0 in
    let held : Interval × ℕ → ℕ = λ (i, f). cond (interval_covers t i) f 0 in
    omega (
      arith,
      same_load unit denominator intervals flows t,
      sum_by-cons carried (arc_of unit denominator i, f) (zip (map (arc_of unit denominator) intervals) flows),
      sum_by-cons held (i, f) (zip intervals flows),
    )

same_weights : (unit denominator : ℕ) (intervals : List Interval) (flows : List ℕ) → AllZip (λ arc f. f ≤ arc.weight) (map (arc_of unit denominator) intervals) flows → AllZip (λ i f. f ≤ weight unit i) intervals flows
same_weights unit denominator [] [] small = tt
same_weights unit denominator [] (f ∷ flows) small = absurd small
same_weights unit denominator (i ∷ intervals) [] small = absurd small
same_weights unit denominator (i ∷ intervals) (f ∷ flows) small = (small.0, same_weights unit denominator intervals flows small.1)

pub fractional : (intervals : List Interval) (steps unit units denominator : ℕ) (flows : List ℕ) → IsSchedule (whole_instance intervals steps unit units denominator) flows → IsFractionalSchedule intervals unit units flows
fractional intervals steps unit units denominator flows schedule =
    record {
      within_weights = same_weights unit denominator intervals flows schedule.within_weights;
      within_units = λ t. omega (arith, schedule.within_units t, same_load unit denominator intervals flows t);
    }

pub rounded_is_near : (intervals : List Interval) (steps unit units denominator : ℕ) (prices flows : List ℕ) → All (λ i. 0 < weight unit i) intervals → IsSolution (whole_instance intervals steps unit units denominator) prices flows
    → (bound_of intervals unit units denominator prices ≤ total_cost (whole_instance intervals steps unit units denominator).arcs flows)
    × (bound_of intervals unit units denominator prices ≤ flow_value intervals unit denominator flows + sum flows)
rounded_is_near intervals steps unit units denominator prices flows some solution =
    let low : bound_of intervals unit units denominator prices ≤ total_cost (map (arc_of unit denominator) intervals) flows = omega (arith, surplus_below unit denominator prices intervals some, solution.equal_values) in
    (low, omega (arith, low, cost_above unit denominator intervals flows))

pub exact_is_least : (intervals : List Interval) (steps unit units denominator : ℕ) (prices flows : List ℕ) → All (λ i. 0 < weight unit i) intervals → HasWholeCosts intervals unit denominator
    → IsSolution (whole_instance intervals steps unit units denominator) prices flows
    → (bound_of intervals unit units denominator prices ≡ flow_value intervals unit denominator flows)
    × ((other : ℕ) (others : List ℕ) → other * bound_of intervals unit units denominator prices ≤ denominator * bound_of intervals unit units other others)
exact_is_least intervals steps unit units denominator prices flows some exact solution =
    let bound : ℕ = bound_of intervals unit units denominator prices in
    let flow : ℕ = flow_value intervals unit denominator flows in
    let schedule = fractional intervals steps unit units denominator flows solution.schedule in
    let equal : bound ≡ flow = omega (arith, surplus_exact unit denominator prices intervals some exact, solution.equal_values, cost_exact unit denominator intervals flows some exact) in
    (equal, λ other others. omega (arith, ap (λ n. other * n) equal, flow_value-le intervals unit units denominator other flows others schedule))
