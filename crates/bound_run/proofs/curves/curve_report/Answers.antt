use Rattle.std.proofs.Common.{◌≡◌, ◌∙◌, ap}
use Rattle.run_counts.specs.Countings.{counting_from}
use Rattle.freshness.specs.Seen.{noted_of}
use Rattle.trace_any.specs.Readers.{Notes}
use Rattle.bound_run.proofs.CurveShown.{curve_shown}
use Rattle.bound_run.proofs.curves.curve_report.Goals as goal

pub returns-clause-report : goal.returns-clause-report
returns-clause-report c =
    let noted_is : noted_of c.notes.inside.noted ≡ c.args.notes.now.noted = ap (λ (n : Notes). n.noted) c.notes.view_is in
    let dropped_is : c.notes.inside.dropped ≡ c.args.notes.now.dropped = ap (λ (n : Notes). n.dropped) c.notes.view_is in
    let counting_is : c.counting_from.result ≡ counting_from c.args.format 0 c.args.trace.now c.args.notes.now.noted = c.counting_from.ensures ∙ ap (counting_from c.args.format 0 c.args.trace.now) noted_is in
    curve_shown c.args.format c.args.trace.now c.args.notes.now c.in_ok-curve.curve c.in_ok-render.field-0.items c.in_ok-curve.ensures.one_size c.in_ok-curve.ensures.curve c.in_ok-curve.ensures.lru
    (rw (counting_is, dropped_is, c.len.ensures.requests, c.objects.ensures.different) at c.in_ok-render.ensures)
