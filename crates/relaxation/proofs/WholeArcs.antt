-- The instance of a timeline: its numbers are in their ranges.
use Rattle.std.proofs.Common.{◌≡◌, ◌∙◌, ℕ, ◌+◌, ◌*◌, ◌/◌, ◌<◌, ◌≤◌, ◌^◌, sym, ap, arith, List, [], ◌∷◌, ◌++◌, length, map, take, get_or, All}
use Prim.Native.Nat.{◌∣◌}
use Rattle.std.proofs.lemmas.List.{take_all, length-map, map_more}
use Rattle.std.proofs.lemmas.List.Elements.{All-map}
use Rattle.std.proofs.Math.Nat.{div-le_self}
use Rattle.cache_model.specs.declared.intervals.Interval.{Interval}
use Rattle.cache_model.specs.Units.{weight}
use Rattle.flow_model.specs.declared.arcs.OuterArc.{OuterArc}
use Rattle.flow_model.specs.Instances.{Instance, IsArc, IsInstance, arc_of, whole_instance}
use Rattle.interval_maker.specs.Timelines.{Timeline, IsInterval, IsTimeline}
use Rattle.relaxation.proofs.Values.{gain-le}
use Rattle.relaxation.proofs.Whole.{timeline_weights}

-- an interval of some weight has an arc
arc_fits : (steps unit denominator : ℕ) (i : Interval) → IsInterval steps i → denominator ≤ 2 ^ 48 → 1 ≤ weight unit i → IsArc steps (arc_of unit denominator i)
arc_fits steps unit denominator i fits small some =
    let light : i.size / unit ≤ i.size = div-le_self i.size unit in
    let worth : denominator * i.gain / weight unit i ≤ denominator * i.gain = div-le_self (denominator * i.gain) (weight unit i) in
    record {
      order = fits.order;
      within = omega (arith, fits.within);
      some_weight = omega arith;
      small_weight = omega (arith, light, fits.size.1);
      small_cost = omega (arith, worth, gain-le denominator i.gain small fits.gain.1);
    }

-- so the instance of the intervals of a timeline is in its ranges
pub whole_is_instance : (line : Timeline) (unit units denominator : ℕ) → IsTimeline line → 1 ≤ unit → All (λ i. unit ∣ i.size) line.items → 1 ≤ units → units ≤ 2 ^ 56 → denominator ≤ 2 ^ 48
    → IsInstance (whole_instance line.items line.steps unit units denominator)
whole_is_instance line unit units denominator is_line some divides some_units few_units small =
    let weights = timeline_weights line unit is_line some divides in
    record {
      few_steps = is_line.few_steps;
      some_units = omega arith;
      few_units = few_units;
      few_arcs = omega (arith, length-map line.items (arc_of unit denominator), is_line.few_intervals, is_line.few_steps);
      arcs_fit = All-map (IsArc line.steps) (arc_of unit denominator) line.items
          (λ k d lt. arc_fits line.steps unit denominator (get_or line.items k d) (is_line.intervals k d lt) small (weights k d lt));
    }

-- once all intervals are done
pub whole_all : (line : Timeline) (unit units denominator k : ℕ) (arcs : List OuterArc) → length line.items ≤ k → arcs ≡ map (arc_of unit denominator) (take k line.items)
    → record { steps = line.steps; units = units; arcs = arcs } ≡ whole_instance line.items line.steps unit units denominator
whole_all line unit units denominator k arcs past made =
    let all : arcs ≡ map (arc_of unit denominator) line.items = made ∙ ap (λ (xs : List Interval). map (arc_of unit denominator) xs) (take_all k line.items past) in
    ap (λ (xs : List OuterArc). let i : Instance = record { steps = line.steps; units = units; arcs = xs } in i) all

-- one more element is mapped
pub map_take-more : {X Y : Type 0} (f : X → Y) (xs : List X) (i : ℕ) (d : X) (ys zs : List Y) (y : Y) → i < length xs → y ≡ f (get_or xs i d) → ys ≡ map f (take i xs) → zs ≡ ys ++ y ∷ [] → zs ≡ map f (take (i + 1) xs)
map_take-more f xs i d ys zs y within is made more = more ∙ ap (λ v. ys ++ v ∷ []) is ∙ ap (λ l. l ++ f (get_or xs i d) ∷ []) made ∙ sym (map_more f xs i d within)
