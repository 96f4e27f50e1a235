-- What is found of a trace makes a valid certificate of it.
use Rattle.std.proofs.Common.{◌≡◌, ◌∙◌, ℕ, ◌*◌, ◌/◌, ◌-◌, ◌<◌, ◌≤◌, ◌^◌, Bool, ◌&&◌, ap, subst, sym, refl, arith, List, [], ◌∷◌, get_or, length, sum, All, ⊎_elim}
use Rattle.std.specs.Prelude.{IsTrue}
use Prim.Native.Nat.{◌∣◌}
use Rattle.std.proofs.lemmas.Bool.{and_parts, and_from, cases_lt, leb-true}
use Rattle.std.proofs.lemmas.List.Elements.{All-head}
use Rattle.std.proofs.lemmas.Nat.{le-div}
use Rattle.std.proofs.lemmas.Nat.Gcd.{le_of_dvd}
use Rattle.std.proofs.Math.Nat.{mul-le-mul_right, div-le_self}
use Rattle.cache_rules.specs.Stored.{Requests}
use Rattle.cache_model.specs.declared.intervals.Interval.{Interval}
use Rattle.cache_model.specs.declared.certificates.Header.{Header}
use Rattle.cache_model.specs.declared.certificates.Record.{Record}
use Rattle.bound_terms.specs.declared.modes.Mode.{Mode}
use Rattle.bound_terms.specs.declared.modes.Mode.TheVariants.{Flow, Constant, Infinite}
use Rattle.cache_model.specs.Intervals.{bound_of}
use Rattle.cache_model.specs.Units.{IsUnit, HasWholeCosts, weight}
use Rattle.cache_model.specs.Certificates.{IsHeaderInRange, IsValid, flows_of, keeps_of, prices_of, upper_of}
use Rattle.cache_model.specs.Claim.{IsAllowed, marked, score, BoundsEveryPolicy, contents_of}
use Rattle.cache_model.specs.Rounding.{IsMaximal, IsRounded, by_rank}
use Rattle.cache_model.specs.Schedules.{IsFractionalSchedule, flow_value}
use Rattle.cache_model.proofs.Headline.{prices_bound, exact_is_least}
use Rattle.flow_model.specs.Instances.{IsSolution, whole_instance}
use Rattle.flow_model.specs.Windows.{window_instance}
use Rattle.flow_model.proofs.Equal.{solution_is_best}
use Rattle.flow_model.proofs.Whole.{rounded_is_near}
use Rattle.flow_model.proofs.Whole.{exact_is_least as exact_values}
use Rattle.interval_maker.specs.Timelines.{Timeline, IsTimeline, IsInterval, timeline_of, no_interval}
use Rattle.relaxation.specs.Denominators.{IsChosen}
use Rattle.relaxation.specs.Prices.{most_paid}
use Rattle.relaxation.proofs.Whole.{timeline_weights}
use Rattle.schedule_round.specs.Laws.{IsBestSchedule, full_flags}
use Rattle.schedule_round.proofs.EqualSizes.{best_schedule, equal_sizes_whole}
use Rattle.bound_words.specs.declared.plans.BoundSettings.{BoundSettings}
use Rattle.window_bounds.specs.Solutions.{prices_in}
use Rattle.bound_run.specs.BoundsMade.{HasLeastWindows, IsBelowWindows, IsMade, IsNear, IsOfMode, is_unwindowed, records_of, width_of}
use Rattle.bound_words.specs.Ranges.{AreBoundSettingsInRange, IsModeInRange}
use Rattle.bound_run.proofs.HeaderRanges.{header_in_range, header_with}
use Rattle.bound_run.proofs.RecordsOf.{length-records, prices_of-records, keeps_of-records, flow_at-unused, flows_of-records, records_in_range}
use Rattle.bound_run.proofs.Relaxing.{below_windows, flows_each, width_positive}

-- the unit is at most the capacity
pub unit-le_capacity : (line : Timeline) (capacity unit : ℕ) → 1 ≤ capacity → IsTimeline line → All (λ i. i.size ≤ capacity) line.items → IsUnit line.items unit → unit ≤ capacity
unit-le_capacity line capacity unit some is_line fit is_unit = at line.items is_line.intervals fit is_unit
  where
    at : (xs : List Interval) → All (IsInterval line.steps) xs → All (λ i. i.size ≤ capacity) xs → IsUnit xs unit → unit ≤ capacity
    at [] shaped within of = omega (arith, of.one_if_none refl)
    at (i ∷ xs) shaped within of =
        let here : IsInterval line.steps i = All-head (IsInterval line.steps) i xs shaped in
        let size : i.size ≤ capacity = All-head (λ (j : Interval). j.size ≤ capacity) i xs within in
        let positive : 0 < i.size = omega (arith, here.size.0) in
        omega (arith, le_of_dvd {m = unit} {n = i.size} positive (All-head (λ (j : Interval). unit ∣ j.size) i xs of.divides))

-- so there is a unit of the cache
pub some_units : (capacity unit : ℕ) → 1 ≤ unit → unit ≤ capacity → 1 ≤ capacity / unit
some_units capacity unit positive within = le-div 1 capacity unit positive (omega arith)

-- what is found of a trace, by its intervals
pub record IsFound (asked : BoundSettings) (trace : Requests) (line : Timeline) (unit units d : ℕ) (whole_costs : Bool) (upper flow lower price : ℕ) (prices flows : List ℕ) (keeps : List Bool) : Type 0 where
  pub in_range : AreBoundSettingsInRange asked
  pub few : length trace.objects ≤ 2 ^ 25
  pub is_line : IsTimeline line
  pub fit : All (λ i. i.size ≤ asked.terms.capacity) line.items
  pub unit_is : IsUnit line.items unit
  pub positive : 1 ≤ unit
  pub units_are : units ≡ asked.terms.capacity / unit
  pub chosen : IsChosen asked.denominator line.items unit d
  pub range : (1 ≤ d) × (d ≤ 2 ^ 48)
  pub whole : IsTrue whole_costs → HasWholeCosts line.items unit d
  pub whole_back : HasWholeCosts line.items unit d → IsTrue whole_costs
  pub of_mode : IsOfMode asked.mode line unit units d prices flows price
  pub each : length prices ≡ line.steps
  pub paid : units * sum prices ≤ most_paid
  pub last : get_or prices (line.steps - 1) 0 ≡ 0
  pub schedule : IsFractionalSchedule line.items unit units flows
  pub bound : upper ≡ bound_of line.items unit units d prices
  pub small : upper < 2 ^ 127
  pub value : flow ≡ flow_value line.items unit d flows
  pub small_value : flow < 2 ^ 127
  pub rounded : IsRounded by_rank line.items asked.terms.capacity (length trace.objects) (full_flags unit line.items flows) keeps
  pub maximal : IsMaximal line.items asked.terms.capacity keeps
  pub allowed : IsAllowed asked.terms.capacity trace.objects (contents_of trace.objects keeps)
  pub scored : lower ≡ score (marked asked.terms trace.fills) trace.objects (contents_of trace.objects keeps)

-- with one window the prices and flows are a solution of the whole
solved : (mode : Mode) (line : Timeline) (unit units d price : ℕ) (prices flows : List ℕ) → IsOfMode mode line unit units d prices flows price → IsTrue (is_unwindowed mode line.steps)
    → IsSolution (whole_instance line.items line.steps unit units d) prices flows
solved (Flow window) line unit units d price prices flows (zero, are, one) wide = one (leb-true line.steps (width_of window line.steps) wide)
solved Constant line unit units d price prices flows of wide = cc
solved Infinite line unit units d price prices flows of wide = cc

module _ (asked : BoundSettings) (trace : Requests) (unit d : ℕ) (whole_costs : Bool) (upper flow lower price : ℕ) (prices flows : List ℕ) (keeps : List Bool) where
  abbrev line : Timeline
  line = timeline_of (marked asked.terms trace.fills) trace.objects

  abbrev units : ℕ
  units = asked.terms.capacity / unit

  abbrev exact : Bool
  exact = is_unwindowed asked.mode (length trace.objects) && whole_costs

  abbrev h : Header
  h = header_with asked (length trace.objects) unit d exact upper flow lower

  abbrev rs : List Record
  rs = records_of prices keeps line.items flows

  module _ (found : IsFound asked trace line unit units d whole_costs upper flow lower price prices flows keeps) where
    many : length keeps ≡ length trace.objects
    many = found.rounded.one_keep_each

    lined : IsTimeline (record { steps = length keeps; items = line.items })
    lined = subst (λ n. IsTimeline (record { steps = n; items = line.items })) (sym many) found.is_line

    each_flow : length flows ≡ length line.items
    each_flow = flows_each unit line.items flows found.schedule.within_weights

    priced : prices_of rs ≡ prices
    priced = prices_of-records prices keeps line.items flows (found.each ∙ sym many)

    kept : keeps_of rs ≡ keeps
    kept = keeps_of-records prices keeps line.items flows

    flowing : flows_of line.items rs ≡ flows
    flowing = flows_of-records prices keeps line.items flows lined each_flow

    counted : length rs ≡ length trace.objects
    counted = length-records prices keeps line.items flows ∙ many

    within : unit ≤ asked.terms.capacity
    within = unit-le_capacity line asked.terms.capacity unit found.in_range.capacity.0 found.is_line found.fit found.unit_is

    some : 1 ≤ units
    some = some_units asked.terms.capacity unit found.positive within

    weights : All (λ i. 1 ≤ weight unit i) line.items
    weights = timeline_weights line unit found.is_line found.positive found.unit_is.divides

    bound : upper ≡ upper_of trace.objects trace.fills h rs
    bound = found.bound ∙ ap (bound_of line.items unit units d) (sym priced)

    bounds : BoundsEveryPolicy trace.objects trace.fills h
    bounds = prices_bound trace.objects trace.fills h rs counted (omega (arith, found.range.0)) bound

    scored_once : (n m : ℕ) → 1 ≤ n → m ≤ n * m
    scored_once n m once = omega (arith, mul-le-mul_right m once)

    ranged : IsHeaderInRange h
    ranged =
        header_in_range asked (length trace.objects) unit d exact upper flow lower found.in_range found.few (found.positive, within) found.range found.small found.small_value
        (omega (arith, found.scored, found.small, bounds.no_policy_scores_more (contents_of trace.objects keeps) found.allowed, scored_once d (score (marked asked.terms trace.fills) trace.objects (contents_of trace.objects keeps)) found.range.0))

    once : (p : ℕ) → p ≤ units * p
    once p = omega (arith, mul-le-mul_right p some)

    equal : IsTrue exact → upper ≡ flow
    equal is =
        let both = and_parts (is_unwindowed asked.mode (length trace.objects)) whole_costs is in
        found.bound
        ∙ (exact_values line.items line.steps unit units d prices flows weights (found.whole both.1) (solved asked.mode line unit units d price prices flows found.of_mode both.0)).0
        ∙ sym found.value

    valid : IsValid trace.objects trace.fills h rs
    valid = record {
      certificate = record {
        header = ranged;
        count = counted;
        each = records_in_range prices keeps line.items flows lined each_flow unit (found.each ∙ sym many) (omega (arith, once (sum prices), found.paid)) found.schedule.within_weights;
      };
      requests = refl;
      sum_limit = subst (λ ps. units * sum ps ≤ 2 ^ 126) (sym priced) found.paid;
      last_price = subst (λ ps. get_or ps (length trace.objects - 1) 0 ≡ 0) (sym priced) found.last;
      unit = found.unit_is.divides;
      keeps = subst (λ ks. IsAllowed asked.terms.capacity trace.objects (contents_of trace.objects ks)) (sym kept) found.allowed;
      lower = found.scored ∙ ap (λ ks. score (marked asked.terms trace.fills) trace.objects (contents_of trace.objects ks)) (sym kept);
      unused_flows = flow_at-unused prices keeps line.items flows;
      flows = subst (IsFractionalSchedule line.items unit units) (sym flowing) found.schedule;
      flow = found.value ∙ ap (flow_value line.items unit d) (sym flowing);
      upper = bound;
      whole_costs = λ is. found.whole (and_parts (is_unwindowed asked.mode (length trace.objects)) whole_costs is).1;
      exact_values = equal;
    }

    below : (mode : Mode) → IsModeInRange mode → IsOfMode mode line unit units d prices flows price → IsBelowWindows mode line unit units d prices upper
    below (Flow window) fits (zero, are, one) =
        subst (IsBelowWindows (Flow window) line unit units d prices) (sym found.bound)
        (below_windows line unit units d (width_of window line.steps) prices flows found.is_line found.positive found.unit_is.divides some (omega (arith, units_small)) found.range.1 (width_positive window line.steps fits) are)
      where
        units_small : units ≤ 2 ^ 56
        units_small = omega (arith, div-le_self asked.terms.capacity unit, found.in_range.capacity.1)
    below Constant fits of = tt
    below Infinite fits of = tt

    least_in_each : (mode : Mode) → IsOfMode mode line unit units d prices flows price → HasLeastWindows mode line unit units d prices
    least_in_each (Flow window) (zero, are, one) = λ k within.
        let whole = whole_instance line.items line.steps unit units d in
        let width = width_of window line.steps in
        (solution_is_best (window_instance whole width k) (prices_in width k prices) (are.window_flows k) (are.each_window k within)).0
    least_in_each Constant of = tt
    least_in_each Infinite of = tt

    -- all costs are whole where all sizes are equal
    whole_of_equal : (size : ℕ) → All (λ i. i.size ≡ size) line.items → HasWholeCosts line.items unit d
    whole_of_equal size same =
        ⊎_elim
        (λ (one : 0 < length line.items).
        equal_sizes_whole line.items size unit d (omega (arith, same 0 no_interval one, (found.is_line.intervals 0 no_interval one).size.0)) same found.unit_is)
        (λ (empty : length line.items ≤ 0). λ k e low. absurd (omega arith))
        (cases_lt 0 (length line.items))

    best : (size : ℕ) → IsTrue (is_unwindowed asked.mode (length trace.objects)) → All (λ i. i.size ≡ size) line.items → IsBestSchedule (marked asked.terms trace.fills) trace.objects d upper keeps
    best size wide same =
        let values = (exact_values line.items line.steps unit units d prices flows weights (whole_of_equal size same) (solved asked.mode line unit units d price prices flows found.of_mode wide)).0 in
        subst (λ u. IsBestSchedule (marked asked.terms trace.fills) trace.objects d u keeps) (sym found.bound)
        (best_schedule (marked asked.terms trace.fills) trace.objects size unit d prices flows by_rank keeps same found.unit_is found.each found.schedule values found.rounded found.allowed)

    near : IsTrue (is_unwindowed asked.mode (length trace.objects)) → IsNear trace h flows
    near wide =
        let bounded = rounded_is_near line.items line.steps unit units d prices flows weights (solved asked.mode line unit units d price prices flows found.of_mode wide) in
        record { earned = omega (arith, bounded.0, found.bound); value = omega (arith, bounded.1, found.bound, found.value) }

    made_at : IsMade asked trace price h rs
    made_at = record {
      valid = valid;
      terms = refl;
      version = refl;
      unit = found.unit_is;
      denominator = found.chosen;
      form = (
        λ is. let both = and_parts (is_unwindowed asked.mode (length trace.objects)) whole_costs is in (both.0, found.whole both.1),
        λ both. and_from (is_unwindowed asked.mode (length trace.objects)) whole_costs both.0 (found.whole_back both.1),
      );
      of_mode = subst (λ ps. IsOfMode asked.mode line unit units d ps (flows_of line.items rs) price) (sym priced) (subst (λ fs. IsOfMode asked.mode line unit units d prices fs price) (sym flowing) found.of_mode);
      least_windows = subst (HasLeastWindows asked.mode line unit units d) (sym priced) (least_in_each asked.mode found.of_mode);
      below_windows = subst (λ ps. IsBelowWindows asked.mode line unit units d ps upper) (sym priced) (below asked.mode found.in_range.mode found.of_mode);
      rounded = subst (λ fs. IsRounded by_rank line.items asked.terms.capacity (length trace.objects) (full_flags unit line.items fs) (keeps_of rs)) (sym flowing)
          (subst (IsRounded by_rank line.items asked.terms.capacity (length trace.objects) (full_flags unit line.items flows)) (sym kept) found.rounded);
      maximal = subst (IsMaximal line.items asked.terms.capacity) (sym kept) found.maximal;
      bounds = bounds;
      least = exact_is_least trace.objects trace.fills h rs valid;
      near = λ wide. subst (IsNear trace h) (sym flowing) (near wide);
      exact_if_equal = λ size wide same. and_from (is_unwindowed asked.mode (length trace.objects)) whole_costs wide (found.whole_back (whole_of_equal size same));
      equal_sizes = λ size wide same. subst (IsBestSchedule (marked asked.terms trace.fills) trace.objects d upper) (sym kept) (best size wide same);
    }

-- what is found makes the certificate
pub made_of : (asked : BoundSettings) (trace : Requests) (found_line : Timeline) (requests unit units d : ℕ) (whole_costs : Bool) (upper flow lower price : ℕ) (prices flows : List ℕ) (keeps : List Bool)
    → found_line ≡ timeline_of (marked asked.terms trace.fills) trace.objects → requests ≡ length trace.objects → units ≡ asked.terms.capacity / unit → IsFound asked trace found_line unit units d whole_costs upper flow lower price prices flows keeps
    → IsMade asked trace price (header_with asked requests unit d (is_unwindowed asked.mode requests && whole_costs) upper flow lower) (records_of prices keeps found_line.items flows)
made_of asked trace found_line requests unit units d whole_costs upper flow lower price prices flows keeps is many units_are found =
    let at_line = subst (λ l. IsFound asked trace l unit units d whole_costs upper flow lower price prices flows keeps) is found in
    let at_units = subst (λ n. IsFound asked trace (timeline_of (marked asked.terms trace.fills) trace.objects) unit n d whole_costs upper flow lower price prices flows keeps) units_are at_line in
    let made = made_at asked trace unit d whole_costs upper flow lower price prices flows keeps at_units in
    subst (λ l. IsMade asked trace price (header_with asked requests unit d (is_unwindowed asked.mode requests && whole_costs) upper flow lower) (records_of prices keeps l.items flows)) (sym is)
    (subst (λ n. IsMade asked trace price (header_with asked n unit d (is_unwindowed asked.mode n && whole_costs) upper flow lower) (records_of prices keeps (timeline_of (marked asked.terms trace.fills) trace.objects).items flows)) (sym many) made)
