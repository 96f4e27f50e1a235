-- What the prices and flows of a mode are for the intervals.
use Rattle.std.proofs.Common.{◌≡◌, ◌∙◌, ℕ, suc, ◌+◌, ◌*◌, ◌/◌, ◌%◌, ◌<◌, ◌≤◌, ◌^◌, ◌==◌, ap, sym, refl, subst, min, arith, cond, Bool, true, false, List, [], ◌∷◌, length, map, zip, get_or, replicate, sum, sum_by, All}
use Prim.Native.Nat.{◌∣◌}
use Rattle.std.specs.List.{AllZip}
use Rattle.std.proofs.Math.Nat.{mul-le-mul_right, div-le_self}
use Rattle.std.proofs.lemmas.Bool.{ne_eqb}
use Rattle.std.proofs.lemmas.Grind.{div_ceil_times}
use Rattle.std.proofs.lemmas.List.{get_or-map, get_or-replicate, length-map, length-replicate}
use Rattle.std.proofs.lemmas.List.Elements.{All-head, All-tail}
use Rattle.std.proofs.lemmas.List.Sums.{sum_by-cons}
use Rattle.cache_model.specs.declared.intervals.Interval.{Interval}
use Rattle.bound_terms.specs.declared.modes.Mode.TheVariants.{Flow}
use Rattle.bound_terms.specs.declared.modes.Window.{Window}
use Rattle.cache_model.specs.Intervals.{bound_of, surplus as interval_surplus}
use Rattle.cache_model.specs.Schedules.{covers, flow_value, load_at, IsFractionalSchedule}
use Rattle.cache_model.specs.Units.{weight}
use Rattle.flow_model.specs.declared.arcs.OuterArc.{OuterArc}
use Rattle.flow_model.specs.Instances.{Instance, IsInstance, arc_of, surplus, whole_instance}
use Rattle.interval_maker.specs.Timelines.{Timeline, IsInterval, IsTimeline, no_interval}
use Rattle.relaxation.specs.Prices.{most_paid}
use Rattle.relaxation.proofs.Values.{gain-le}
use Rattle.relaxation.proofs.Whole.{timeline_weights}
use Rattle.relaxation.proofs.WholeArcs.{whole_is_instance}
use Rattle.schedule_round.specs.Laws.{full_flags}
use Rattle.window_bounds.specs.Solutions.{AreSolutions, full_of, value_of_windows}
use Rattle.window_bounds.proofs.Results.{above_of}
use Rattle.bound_terms.specs.declared.modes.Window.TheVariants.{Steps, All as Whole}
use Rattle.bound_run.specs.BoundsMade.{width_of}
use Rattle.bound_words.specs.Ranges.{IsModeInRange}

-- the whole weight at its cost, rounded up, is at most the gain and the weight
ceil_below : (n w : ℕ) → 0 < w → w * (n / w + min 1 (n % w)) ≤ n + w
ceil_below n w some = omega (arith, (div_ceil_times n w some).1)

-- what each arc earns is small
module _ (steps unit denominator : ℕ) (small : denominator ≤ 2 ^ 48) where
  earned : (intervals : List Interval) → ((k : ℕ) → k < length intervals → IsInterval steps (get_or intervals k no_interval)) → All (λ i. 1 ≤ weight unit i) intervals
      → sum_by (λ arc. arc.weight * arc.cost) (map (arc_of unit denominator) intervals) ≤ length intervals * 2 ^ 97
  earned [] shaped some = omega arith
  earned (i ∷ intervals) shaped some =
      let here : IsInterval steps i = shaped 0 (omega arith) in
      omega (
        arith,
        sum_by-cons (λ (arc : OuterArc). arc.weight * arc.cost) (arc_of unit denominator i) (map (arc_of unit denominator) intervals),
        ceil_below (denominator * i.gain) (weight unit i) (All-head (λ j. 1 ≤ weight unit j) i intervals some),
        gain-le denominator i.gain small here.gain.1,
        div-le_self i.size unit,
        here.size.1,
        earned intervals (λ k low. shaped (suc k) (omega arith)) (All-tail (λ j. 1 ≤ weight unit j) i intervals some),
      )

-- prices that pay for no more than the arcs earn
pub paid_little : (line : Timeline) (unit units denominator : ℕ) (prices : List ℕ) → IsTimeline line → 1 ≤ unit → All (λ i. unit ∣ i.size) line.items → denominator ≤ 2 ^ 48
    → units * sum prices ≤ sum_by (λ arc. arc.weight * arc.cost) (whole_instance line.items line.steps unit units denominator).arcs → units * sum prices ≤ most_paid
paid_little line unit units denominator prices is_line positive divides small paid =
    omega (
      arith,
      paid,
      earned line.steps unit denominator small line.items (λ k low. is_line.intervals k no_interval low) (timeline_weights line unit is_line positive divides),
      mul-le-mul_right (2 ^ 97) (few line is_line),
    )
  where
    few : (line : Timeline) → IsTimeline line → length line.items ≤ 2 ^ 25
    few line is = omega (arith, is.few_intervals, is.few_steps)

-- no interval covers the last step
pub ends_before : (line : Timeline) (unit units denominator : ℕ) → IsTimeline line → All (λ arc. arc.end < line.steps) (whole_instance line.items line.steps unit units denominator).arcs
ends_before line unit units denominator is_line = λ k d low.
    let here : k < length line.items = omega (arith, length-map line.items (arc_of unit denominator)) in
    at k d here (get_or_map_arc k d here)
  where
    get_or_map_arc : (k : ℕ) (d : OuterArc) → k < length line.items → get_or (map (arc_of unit denominator) line.items) k d ≡ arc_of unit denominator (get_or line.items k no_interval)
    get_or_map_arc k d low = get_or-map (arc_of unit denominator) line.items k no_interval d low

    at : (k : ℕ) (d : OuterArc) → k < length line.items → get_or (map (arc_of unit denominator) line.items) k d ≡ arc_of unit denominator (get_or line.items k no_interval) → (get_or (map (arc_of unit denominator) line.items) k d).end < line.steps
    at k d low is = subst (λ (arc : OuterArc). arc.end < line.steps) (sym is) (is_line.intervals k no_interval low).within

-- the bound of prices is at most their value on the instance
surplus_below : (unit denominator : ℕ) (prices : List ℕ) (intervals : List Interval) → All (λ i. 1 ≤ weight unit i) intervals
    → sum_by (interval_surplus unit denominator prices) intervals ≤ sum_by (surplus prices) (map (arc_of unit denominator) intervals)
surplus_below unit denominator prices [] some = omega arith
surplus_below unit denominator prices (i ∷ intervals) some =
    let n : ℕ = denominator * i.gain in
    let w : ℕ = weight unit i in
    omega (
      arith,
      (div_ceil_times n w (All-head (λ j. 1 ≤ weight unit j) i intervals some)).0,
      surplus_below unit denominator prices intervals (All-tail (λ j. 1 ≤ weight unit j) i intervals some),
      sum_by-cons (interval_surplus unit denominator prices) i intervals,
      sum_by-cons (surplus prices) (arc_of unit denominator i) (map (arc_of unit denominator) intervals),
    )

-- so it is at most what the windows are worth
pub below_windows : (line : Timeline) (unit units denominator width : ℕ) (prices flows : List ℕ) → IsTimeline line → 1 ≤ unit → All (λ i. unit ∣ i.size) line.items → 1 ≤ units → units ≤ 2 ^ 56 → denominator ≤ 2 ^ 48
    → 1 ≤ width → AreSolutions (whole_instance line.items line.steps unit units denominator) width prices flows
    → bound_of line.items unit units denominator prices ≤ value_of_windows (whole_instance line.items line.steps unit units denominator) width prices
below_windows line unit units denominator width prices flows is_line positive divides some_units few_units small wide are =
    let whole : Instance = whole_instance line.items line.steps unit units denominator in
    let fits : IsInstance whole = whole_is_instance line unit units denominator is_line positive divides some_units few_units small in
    omega (
      arith,
      surplus_below unit denominator prices line.items (timeline_weights line unit is_line positive divides),
      above_of whole width prices flows fits wide are,
    )

-- no flow at all is a schedule
pub no_flows : (unit units : ℕ) (intervals : List Interval) → IsFractionalSchedule intervals unit units (replicate (length intervals) 0)
no_flows unit units intervals = record { within_weights = weights intervals; within_units = λ t. omega (arith, loads t intervals) }
  where
    weights : (xs : List Interval) → AllZip (λ i f. f ≤ weight unit i) xs (replicate (length xs) 0)
    weights [] = tt
    weights (i ∷ xs) = (omega arith, weights xs)

    nothing : (b : Bool) (f : ℕ) → f ≡ 0 → cond b f 0 ≡ 0
    nothing true f e = e
    nothing false f e = refl

    loads : (t : ℕ) (xs : List Interval) → load_at xs (replicate (length xs) 0) t ≡ 0
    loads t [] = refl
    loads t (i ∷ xs) = omega (arith, sum_by-cons (λ (p : Interval × ℕ). cond (covers t p.0) p.1 0) (i, 0) (zip xs (replicate (length xs) 0)), nothing (covers t i) 0 refl, loads t xs)

-- no flow at all is worth nothing
pub no_value : (unit denominator : ℕ) (intervals : List Interval) → flow_value intervals unit denominator (replicate (length intervals) 0) ≡ 0
no_value unit denominator [] = refl
no_value unit denominator (i ∷ xs) =
    omega (arith, sum_by-cons (λ (p : Interval × ℕ). (denominator * p.0.gain / weight unit p.0) * p.1) (i, 0) (zip xs (replicate (length xs) 0)), no_value unit denominator xs)

-- the arcs with full flows are those of the flagged intervals
pub full_of-arcs : (unit denominator : ℕ) (intervals : List Interval) (flows : List ℕ) → full_of (map (arc_of unit denominator) intervals) flows ≡ full_flags unit intervals flows
full_of-arcs unit denominator [] flows = refl
full_of-arcs unit denominator (i ∷ intervals) [] = refl
full_of-arcs unit denominator (i ∷ intervals) (f ∷ flows) = ap (λ flags. (f == weight unit i) ∷ flags) (full_of-arcs unit denominator intervals flows)

-- if no interval has flow, none is flagged
pub full_flags-no_flows : (line : Timeline) (unit : ℕ) → IsTimeline line → 1 ≤ unit → All (λ i. unit ∣ i.size) line.items
    → full_flags unit line.items (replicate (length line.items) 0) ≡ replicate (length line.items) false
full_flags-no_flows line unit is_line positive divides = none line.items (timeline_weights line unit is_line positive divides)
  where
    none : (xs : List Interval) → All (λ i. 1 ≤ weight unit i) xs → full_flags unit xs (replicate (length xs) 0) ≡ replicate (length xs) false
    none [] some = refl
    none (i ∷ xs) some =
        let some_weight : 1 ≤ weight unit i = All-head (λ j. 1 ≤ weight unit j) i xs some in
        ap (λ (flag : Bool). flag ∷ full_flags unit xs (replicate (length xs) 0)) (ne_eqb 0 (weight unit i) (λ zero. omega (arith, zero, some_weight)))
        ∙ ap (λ flags. false ∷ flags) (none xs (All-tail (λ j. 1 ≤ weight unit j) i xs some))

pub all_zero : (n : ℕ) → All (λ (f : ℕ). f ≡ 0) (replicate n 0)
all_zero n = λ k d low. get_or-replicate n k 0 d (let zero_first : ℕ = 0 in omega (arith, length-replicate n zero_first))

-- a window has a step
pub width_positive : (window : Window) (steps : ℕ) → IsModeInRange (Flow window) → 1 ≤ width_of window steps
width_positive Whole steps fits = omega arith
width_positive (Steps width) steps fits = fits.0

-- flows that are within the weights one by one are as many as the intervals
pub flows_each : (unit : ℕ) (xs : List Interval) (fs : List ℕ) → AllZip (λ i f. f ≤ weight unit i) xs fs → length fs ≡ length xs
flows_each unit [] [] small = refl
flows_each unit [] (f ∷ fs) small = absurd small
flows_each unit (i ∷ xs) [] small = absurd small
flows_each unit (i ∷ xs) (f ∷ fs) small = omega (arith, flows_each unit xs fs small.1)
