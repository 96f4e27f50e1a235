use Rattle.std.proofs.Common.{◌≡◌, ◌∙◌, ℕ, ◌*◌, List, length, ap, sym, subst}
use Rattle.std.proofs.lemmas.Result.{IfOk-weaker}
use Rattle.area_sums.specs.declared.bound.EdgeBound.{EdgeBound}
use Rattle.area_sums.specs.Groups.{AreLeastBounds, Sums}
use Rattle.area_sums.specs.Kept.{sums_in}
use Rattle.area_sums.specs.Pages.{group_in}
use Rattle.area_sums.specs.Places.{AreLeastBefore, AreOfSpans, pairs}
use Rattle.area_sums.proofs.BoundsLemmas.{least-pairs}
use Rattle.area_sums.proofs.KeptLemmas.{bytes-bounds, bytes-of_spans, hits-bounds, hits-of_spans}
use Rattle.area_sums.proofs.sums.AreaSums.bounds.Goals as goal

pub least_bounds-requires-clause-spans : goal.least_bounds-requires-clause-spans
least_bounds-requires-clause-spans c =
    subst (λ capacities. AreOfSpans capacities (c.self.inside.hits.rows * 64) (group_in c.self.inside.hits)) (sym c.deref.ensures.value)
    (hits-of_spans c.self.inside.capacities.items c.self.inside.count c.self.inside.hits c.self.inside.bytes c.self.invariant)

pub least_bounds-requires-2-clause-spans : goal.least_bounds-requires-2-clause-spans
least_bounds-requires-2-clause-spans c =
    subst (λ capacities. AreOfSpans capacities (c.self.inside.bytes.rows * 64) (group_in c.self.inside.bytes)) (sym c.deref-2.ensures.value)
    (bytes-of_spans c.self.inside.capacities.items c.self.inside.count c.self.inside.hits c.self.inside.bytes c.self.invariant)

pub returns : goal.returns
returns c =
    let capacities : List ℕ = c.self.inside.capacities.items in
    let sums : Sums = sums_in capacities c.self.inside.count c.self.inside.hits c.self.inside.bytes in
    let hits : List EdgeBound = c.in_ok-hits.hits.items in
    let bytes : List EdgeBound = c.in_ok-bytes.bytes.items in
    let of_hits =
    hits-bounds capacities c.self.inside.count c.self.inside.hits c.self.inside.bytes c.self.invariant c.args.steps hits
    (subst (λ capacities. AreLeastBefore (length capacities) c.args.steps capacities (group_in c.self.inside.hits) hits) c.deref.ensures.value c.in_ok-hits.ensures) in
    let of_bytes =
    bytes-bounds capacities c.self.inside.count c.self.inside.hits c.self.inside.bytes c.self.invariant c.args.steps bytes
    (subst (λ capacities. AreLeastBefore (length capacities) c.args.steps capacities (group_in c.self.inside.bytes) bytes) c.deref-2.ensures.value c.in_ok-bytes.ensures) in
    IfOk-weaker c.paired.result (λ bounds. bounds.items ≡ pairs c.deref-3.result.now c.deref-4.result.now) (λ bounds. AreLeastBounds c.args.self.now c.args.steps bounds.items)
    (λ bounds e.
    subst (AreLeastBounds c.args.self.now c.args.steps) (sym (e ∙ ap (λ xs. pairs xs c.deref-4.result.now) c.deref-3.ensures.value ∙ ap (pairs hits) c.deref-4.ensures.value))
    (subst (λ (s : Sums). AreLeastBounds s c.args.steps (pairs hits bytes)) c.self.view_is (least-pairs sums c.args.steps hits bytes of_hits of_bytes)))
    c.paired.ensures
