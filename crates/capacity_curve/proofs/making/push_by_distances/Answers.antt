use Rattle.std.proofs.Common.{◌∙◌, ◌≤◌, refl, get_or, map, arith}
use Rattle.std.proofs.lemmas.List.{get_or_default}
use Rattle.byte_curve.specs.Counts.{no_hits}
use Rattle.std.proofs.lemmas.List.Elements.{All-get_or, All-push}
use Rattle.byte_curve.specs.Sizes.{greatest_size}
use Rattle.capacity_curve.specs.declared.points.Point.{Point}
use Rattle.capacity_curve.specs.Points.{IsPoint}
use Rattle.capacity_curve.proofs.PointLemmas.{at-more, point-by-distance}
use Rattle.capacity_curve.proofs.making.push_by_distances.Goals as goal

pub loop-k-preserved : goal.loop-k-preserved
loop-k-preserved c =
    let capacities = c.args.capacities.now in
    let k = c.loop-k.k in
    let point : Point = record { capacity = get_or capacities k 0; hits = c.index.result.now.hits; bytes = c.index.result.now.bytes; upper = c.in_ok-bound.bound.upper } in
    let is : IsPoint c.args.asked.now c.args.trace.now point
    = point-by-distance c.args.asked.now c.args.trace.now capacities c.in_ok-found.found.items k (get_or capacities 0 0) c.index.result.now c.in_ok-intervals.intervals c.in_ok-bound.bound.upper c.requires.denominator.0
    c.in_ok-found.ensures (omega arith) (c.index.ensures ∙ get_or_default c.in_ok-found.found.items k c.index.result.now no_hits (omega (arith, c.in_ok-found.ensures.places)))
    (All-get_or (λ capacity. greatest_size c.args.trace.now.objects ≤ capacity) capacities k 0 (omega arith) c.requires.large) (All-get_or (λ capacity. greatest_size c.args.trace.now.objects ≤ capacity) capacities 0 0 (omega arith) c.requires.large)
    c.in_ok-intervals.ensures.intervals c.in_ok-bound.ensures in
    rw (c.in_ok-push.ensures.items)
    (record {
      at = at-more capacities (map (λ (p : Point). p.capacity) c.args.points.now.items) c.loop-k.points.items k point (omega arith) refl c.loop-k.invariant.at;
      points = All-push (IsPoint c.args.asked.now c.args.trace.now) c.loop-k.points.items point c.loop-k.invariant.points is;
    })
