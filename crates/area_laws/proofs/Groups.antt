-- What intervals are worth beyond their areas is known by the sums of their gains and of their areas.
use Rattle.std.proofs.Common.{◌≡◌, ℕ, ◌+◌, ◌*◌, ◌<◌, ◌≤◌, refl, ap, Bool, true, false, cond, nat_lt, List, [], ◌∷◌, arith, sum_by, All}
use Rattle.std.proofs.lemmas.Bool.{ltb-true, ltb-false}
use Rattle.std.proofs.lemmas.List.Elements.{All-head, All-tail}
use Rattle.std.proofs.lemmas.List.Sums.{sum_by-cons}
use Rattle.cache_model.specs.declared.intervals.Interval.{Interval}
use Rattle.area_laws.specs.Areas.{area_of, area_surplus, gains_of, areas_of, below_edge}
use Rattle.area_laws.specs.Laws.{GroupsAddUp}

module _ (delay edge : ℕ) where
  all_below : (intervals : List Interval) → All (λ i. area_of delay i ≤ edge * i.gain) intervals
      → sum_by (area_surplus delay edge) intervals + areas_of delay intervals ≡ edge * gains_of intervals
  all_below [] each = omega arith
  all_below (i ∷ intervals) each =
      let here : area_of delay i ≤ edge * i.gain = All-head (λ i. area_of delay i ≤ edge * i.gain) i intervals each in
      omega (
        arith,
        all_below intervals (All-tail (λ i. area_of delay i ≤ edge * i.gain) i intervals each),
        sum_by-cons (area_surplus delay edge) i intervals,
        sum_by-cons (area_of delay) i intervals,
        ap (λ n. edge * n) (sum_by-cons (λ (i : Interval). i.gain) i intervals),
      )

  none_below : (intervals : List Interval) → All (λ i. edge * i.gain ≤ area_of delay i) intervals
      → sum_by (area_surplus delay edge) intervals ≡ 0
  none_below [] each = refl
  none_below (i ∷ intervals) each =
      let here : edge * i.gain ≤ area_of delay i = All-head (λ i. edge * i.gain ≤ area_of delay i) i intervals each in
      omega (
        arith,
        none_below intervals (All-tail (λ i. edge * i.gain ≤ area_of delay i) i intervals each),
        sum_by-cons (area_surplus delay edge) i intervals,
      )

  -- those at the edge or above add nothing
  any : (intervals : List Interval)
      → sum_by (area_surplus delay edge) intervals + areas_of delay (below_edge delay edge intervals)
      ≡ edge * gains_of (below_edge delay edge intervals)
  any [] = omega arith
  any (i ∷ intervals) = at (nat_lt (area_of delay i) (edge * i.gain)) refl (any intervals)
    where
      rest : List Interval
      rest = below_edge delay edge intervals

      at : (t : Bool) → nat_lt (area_of delay i) (edge * i.gain) ≡ t
          → sum_by (area_surplus delay edge) intervals + areas_of delay rest ≡ edge * gains_of rest
          → sum_by (area_surplus delay edge) (i ∷ intervals) + areas_of delay (cond t (i ∷ rest) rest)
          ≡ edge * gains_of (cond t (i ∷ rest) rest)
      at true e more =
          let below : area_of delay i < edge * i.gain = ltb-true (area_of delay i) (edge * i.gain) e in
          omega (
            arith,
            sum_by-cons (area_surplus delay edge) i intervals,
            sum_by-cons (area_of delay) i rest,
            ap (λ n. edge * n) (sum_by-cons (λ (i : Interval). i.gain) i rest),
          )
      at false e more =
          let above : edge * i.gain ≤ area_of delay i = ltb-false (area_of delay i) (edge * i.gain) e in
          omega (arith, sum_by-cons (area_surplus delay edge) i intervals)

pub groups_add_up : GroupsAddUp
groups_add_up delay edge intervals = record {
  all_below = all_below delay edge intervals;
  none_below = none_below delay edge intervals;
  any = omega (arith, any delay edge intervals);
  areas_within = omega (arith, any delay edge intervals);
}
