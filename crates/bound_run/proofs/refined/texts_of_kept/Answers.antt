use Rattle.std.proofs.Common.{◌≡◌, ◌∙◌, ap}
use Rattle.cert_checker.specs.declared.verdict.Verdict.{Verdict}
use Rattle.freshness.specs.Seen.{noted_of}
use Rattle.trace_any.specs.Readers.{Notes}
use Rattle.bound_run.specs.Refined.{verdict_on, with_upper}
use Rattle.run_counts.specs.Countings.{counting_of}
use Rattle.bound_run.specs.Reports.{refined_report}
use Rattle.bound_run.proofs.Refining.{certificate, refined_texts}
use Rattle.bound_run.proofs.refined.texts_of_kept.Goals as goal

pub cert_of-requires-clause-certificate : goal.cert_of-requires-clause-certificate
cert_of-requires-clause-certificate c =
    let kept = c.args.kept.now in
    let made : c.with_upper-made.result.header ≡ with_upper kept.verdict.header c.in_ok-refined.refined.upper
    = ap (λ (v : Verdict). v.header) c.with_upper-made.ensures ∙ ap (λ (v : Verdict). with_upper v.header c.upper.result) c.verdict.ensures ∙ ap (with_upper kept.verdict.header) c.upper.ensures in
    rw (made, c.records.ensures, c.prices.ensures) (certificate c.args.width kept.trace kept.verdict.header kept.records c.requires.valid c.in_ok-refined.refined c.in_ok-refined.ensures.refined)

pub returns : goal.returns
returns c =
    let noted_is : noted_of c.notes.inside.noted ≡ c.args.notes.now.noted = ap (λ (n : Notes). n.noted) c.notes.view_is in
    let dropped_is : c.notes.inside.dropped ≡ c.args.notes.now.dropped = ap (λ (n : Notes). n.dropped) c.notes.view_is in
    let kept = c.args.kept.now in
    let to = c.in_ok-refined.refined in
    let h = kept.verdict.header in
    let whole : c.with_upper-made.result ≡ verdict_on kept.trace (with_upper h to.upper)
    = c.with_upper-made.ensures
    ∙ ap (λ (v : Verdict). record { header = with_upper v.header c.upper.result; objects = v.objects }) c.verdict.ensures
    ∙ ap (λ n. record { header = with_upper h n; objects = kept.verdict.objects }) c.upper.ensures
    ∙ ap (λ (v : Verdict). record { header = with_upper h to.upper; objects = v.objects }) c.requires.verdict in
    let counted : c.counting_of.result ≡ counting_of c.args.format h kept.trace c.args.notes.now.noted = (rw (c.verdict-2.ensures, c.trace.ensures) at c.counting_of.ensures) ∙ ap (counting_of c.args.format h kept.trace) noted_is in
    let made : c.with_upper-made.result.header ≡ with_upper h to.upper = ap (λ (v : Verdict). v.header) whole in
    refined_texts c.args.width kept.trace h kept.records c.requires.valid to c.in_ok-refined.ensures.refined c.args.format c.args.notes.now c.in_ok-cert.cert.items c.in_ok-report.report.items
    (rw (made, c.records.ensures, c.prices.ensures) at c.in_ok-cert.ensures)
    (rw dropped_is at c.in_ok-report.ensures
    ∙ ap (λ (v : Verdict). refined_report c.counting_of.result v.header.upper c.with_upper-made.result c.args.notes.now.dropped) c.verdict-2.ensures
    ∙ ap (λ (v : Verdict). refined_report c.counting_of.result h.upper v c.args.notes.now.dropped) whole
    ∙ ap (λ n. refined_report n h.upper (verdict_on kept.trace (with_upper h to.upper)) c.args.notes.now.dropped) counted)
