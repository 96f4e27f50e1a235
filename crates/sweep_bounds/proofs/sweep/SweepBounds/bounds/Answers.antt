use Rattle.std.proofs.Common.{◌≡◌, ℕ, ◌-◌, ◌<◌, ◌∙◌, ap, subst, List}
use Rattle.std.specs.Prelude.{IfOk, slice_index}
use Rattle.std.proofs.lemmas.Result.{IfOk-weaker}
use Rattle.cache_model.specs.declared.objects.Objective.{Objective}
use Rattle.cache_model.specs.declared.objects.Objective.TheVariants.{Object as Hits, Bytes}
use Rattle.area_sums.specs.declared.bound.CapacityBounds.{CapacityBounds}
use Rattle.area_sums.specs.declared.bound.EdgeBound.{EdgeBound}
use Rattle.area_sums.specs.Bounds.{IsLeastBound, at_place}
use Rattle.area_sums.specs.Groups.{AreLeastBounds, IsLeastBoundAt}
use Rattle.area_sums.specs.Spans.{Span}
use Rattle.sweep_bounds.specs.Spans.{spans_of}
use Rattle.sweep_bounds.specs.Sweep.{AreBoundsOf, IsBoundAt, Sweep}
use Rattle.sweep_bounds.specs.contracts.sweep.SweepBounds.{the_view}
use Rattle.sweep_bounds.proofs.Told.{IsSweepBound-spans}
use Rattle.sweep_bounds.proofs.sweep.SweepBounds.bounds.Goals as goal

-- what the sums of a sweep tell of any spans, they tell of those of the trace
tells : (sweep : Sweep) (objective : Objective) (place steps : ℕ) (bound : EdgeBound) → steps ≡ sweep.requests - 1 → 0 < bound.edge
    → IsLeastBoundAt objective place sweep.sums steps bound → IsBoundAt objective place sweep bound
tells sweep objective place steps bound before positive told = λ trace fills h.
    let capacity : ℕ = slice_index sweep.sums.capacities place in
    let spans : List Span = spans_of sweep.warmup sweep.delay fills trace in
    IsSweepBound-spans objective capacity sweep.warmup fills sweep.delay trace bound positive
    (subst (λ n. IsLeastBound objective capacity n spans bound) (before ∙ ap (λ n. n - 1) h.requests) (told spans h.sums))

tells_all : (sweep : Sweep) (steps : ℕ) (bounds : List CapacityBounds) → steps ≡ sweep.requests - 1
    → AreLeastBounds sweep.sums steps bounds → AreBoundsOf sweep bounds
tells_all sweep steps bounds before least = record {
  each = least.each;
  edges = least.edges;
  hits = λ place low. tells sweep Hits place steps (at_place bounds place).hits before (least.edges place low).0 (least.hits place low);
  bytes = λ place low. tells sweep Bytes place steps (at_place bounds place).bytes before (least.edges place low).1 (least.bytes place low);
}

pub returns : goal.returns
returns c =
    let old : Sweep = the_view c.self.inside in
    subst (λ (sweep : Sweep). IfOk c.bounds.result (λ bounds. AreBoundsOf sweep bounds.items)) c.self.view_is
    (IfOk-weaker c.bounds.result (λ bounds. AreLeastBounds old.sums c.saturating_sub.result bounds.items) (λ bounds. AreBoundsOf old bounds.items)
    (λ bounds least. tells_all old c.saturating_sub.result bounds.items c.saturating_sub.ensures least)
    c.bounds.ensures)
