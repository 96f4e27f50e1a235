use Rattle.std.proofs.Common.{◌≡◌, ◌∙◌, ap}
use Rattle.std.proofs.lemmas.Result.{IfOk-weaker}
use Rattle.bound_report.specs.CapacityCurves.{capacity_curve_lines}
use Rattle.bound_report.specs.Rendering.{rendered}
use Rattle.run_counts.specs.Countings.{counting_from}
use Rattle.freshness.specs.Seen.{noted_of}
use Rattle.trace_any.specs.Readers.{Notes}
use Rattle.bound_run.specs.CapacityCurves.{IsCapacityCurveText, capacity_facts}
use Rattle.bound_run.proofs.curves.capacity_curve_report.Goals as goal

pub returns : goal.returns
returns c =
    let asked = c.args.asked.now in
    let trace = c.args.trace.now in
    let points = c.in_ok-points.points.items in
    let noted_is : noted_of c.notes.inside.noted ≡ c.args.notes.now.noted = ap (λ (n : Notes). n.noted) c.notes.view_is in
    let dropped_is : c.notes.inside.dropped ≡ c.args.notes.now.dropped = ap (λ (n : Notes). n.dropped) c.notes.view_is in
    let lines = capacity_curve_lines (capacity_facts asked trace c.args.notes.now.dropped) points in
    IfOk-weaker c.render.result
    (λ text. text.items ≡ rendered c.counting_from.result lines)
    (λ text. IsCapacityCurveText c.args.format asked c.args.capacities.now trace c.args.notes.now text.items)
    (λ text is. record { points = points; are_points = c.in_ok-points.ensures; text_is = is ∙ ap (λ counting. rendered counting lines) (c.counting_from.ensures ∙ ap (counting_from c.args.format asked.warmup trace) noted_is) })
    (rw (c.deref.ensures.value, c.len.ensures.requests, c.objects.ensures.different, dropped_is) at c.render.ensures)
