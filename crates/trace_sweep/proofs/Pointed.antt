-- The bounds at each capacity, with the capacities.
use Rattle.std.proofs.Common.{◌≡◌, ◌∙◌, ℕ, ◌<◌, ap, sym, subst, refl, arith, List, [], ◌∷◌, length, get_or, map, zip}
use Rattle.std.proofs.lemmas.List.{get_or-map, length-map}
use Rattle.std.proofs.lemmas.Slice.Zip.{get_or-zip, length-zip}
use Rattle.cache_model.specs.declared.objects.Objective.TheVariants.{Object as Hits, Bytes}
use Rattle.cache_model.specs.Claim.{terms_from}
use Rattle.cache_rules.specs.Stored.{Requests}
use Rattle.area_sums.specs.declared.bound.CapacityBounds.{CapacityBounds}
use Rattle.area_sums.specs.Bounds.{at_place}
use Rattle.sweep_bounds.specs.Bounds.{IsSweepBound}
use Rattle.sweep_bounds.specs.Sweep.{AreBoundsOf, HasSeen, Sweep}
use Rattle.trace_sweep.specs.declared.points.SweepPoint.{SweepPoint}
use Rattle.trace_sweep.specs.Points.{AreSweepPoints, HasEdges, points_of}

-- each capacity is that of its point
each-capacity : (capacities : List ℕ) (bounds : List CapacityBounds) → length bounds ≡ length capacities → map (λ (p : SweepPoint). p.capacity) (points_of capacities bounds) ≡ capacities
each-capacity [] [] same = refl
each-capacity [] (b ∷ bounds) same = absurd (omega (arith, same))
each-capacity (c ∷ capacities) [] same = absurd (omega (arith, same))
each-capacity (c ∷ capacities) (b ∷ bounds) same = ap (λ rest. c ∷ rest) (each-capacity capacities bounds (omega (arith, same)))

module _ (capacities : List ℕ) (bounds : List CapacityBounds) (same : length bounds ≡ length capacities) where
  abbrev pair : ℕ × CapacityBounds → SweepPoint
  pair = λ p. record { capacity = p.0; bounds = p.1 }

  abbrev none : CapacityBounds
  none = record { hits = record { upper = 0; edge = 0 }; bytes = record { upper = 0; edge = 0 } }

  length-points : length (points_of capacities bounds) ≡ length capacities
  length-points = length-map (zip capacities bounds) pair ∙ omega (arith, length-zip capacities bounds, same)

  point-at : (k : ℕ) (d : SweepPoint) → k < length (points_of capacities bounds) → get_or (points_of capacities bounds) k d ≡ record { capacity = get_or capacities k 0; bounds = at_place bounds k }
  point-at k d low =
      get_or-map pair (zip capacities bounds) k (0, none) d (omega (arith, low, length-points, length-zip capacities bounds, same))
      ∙ ap pair (get_or-zip capacities bounds k (0, none) (omega (arith, low, length-points)) (omega (arith, low, length-points, same)))

-- the bounds of a sweep that has seen a trace, with its capacities
pub sweep-points : (sweep : Sweep) (trace : Requests) (bounds : List CapacityBounds) → AreBoundsOf sweep bounds → HasSeen trace.objects trace.fills sweep
    → AreSweepPoints sweep.warmup sweep.delay trace sweep.sums.capacities (points_of sweep.sums.capacities bounds)
sweep-points sweep trace bounds are seen =
    let capacities : List ℕ = sweep.sums.capacities in
    let below : (k : ℕ) → k < length (points_of capacities bounds) → k < length bounds = λ k low. omega (arith, low, length-points capacities bounds are.each, are.each) in
    record {
      each = each-capacity capacities bounds are.each;
      edges = λ k d low. subst HasEdges (sym (point-at capacities bounds are.each k d low)) (are.edges k (below k low));
      hits = λ k d low.
          subst (λ (p : SweepPoint). IsSweepBound (terms_from Hits p.capacity sweep.warmup trace.fills) sweep.delay trace.objects p.bounds.hits) (sym (point-at capacities bounds are.each k d low))
          (are.hits k (below k low) trace.objects trace.fills seen);
      bytes = λ k d low.
          subst (λ (p : SweepPoint). IsSweepBound (terms_from Bytes p.capacity sweep.warmup trace.fills) sweep.delay trace.objects p.bounds.bytes) (sym (point-at capacities bounds are.each k d low))
          (are.bytes k (below k low) trace.objects trace.fills seen);
    }

-- the same in other words for the warm-up, the delay and the capacities
pub points-are : (sweep : Sweep) (trace : Requests) (bounds : List CapacityBounds) (warmup delay : ℕ) (capacities : List ℕ)
    → sweep.warmup ≡ warmup → sweep.delay ≡ delay → sweep.sums.capacities ≡ capacities → AreBoundsOf sweep bounds → HasSeen trace.objects trace.fills sweep
    → AreSweepPoints warmup delay trace capacities (points_of capacities bounds)
points-are sweep trace bounds warmup delay capacities same_warmup same_delay same_capacities are seen =
    subst (λ cs. AreSweepPoints warmup delay trace cs (points_of cs bounds)) same_capacities
    (subst (λ d. AreSweepPoints warmup d trace sweep.sums.capacities (points_of sweep.sums.capacities bounds)) same_delay
    (subst (λ w. AreSweepPoints w sweep.delay trace sweep.sums.capacities (points_of sweep.sums.capacities bounds)) same_warmup
    (sweep-points sweep trace bounds are seen)))
