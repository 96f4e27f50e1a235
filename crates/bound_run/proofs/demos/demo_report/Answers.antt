use Rattle.std.proofs.Common.{◌∙◌, ap, subst, sym}
use Rattle.cache_rules.specs.Stored.{Requests, all_count}
use Rattle.trace_any.specs.Readings.{webcache_form}
use Rattle.freshness.specs.Seen.{nothing_noted}
use Rattle.bound_run.specs.BoundsMade.{AreTexts}
use Rattle.bound_report.specs.Demos.{demo_text}
use Rattle.bound_run.specs.Demos.{demo_facts}
use Rattle.bound_run.proofs.Demonstrated.{certified_by_texts, shown_by}
use Rattle.bound_run.proofs.demos.demo_report.Goals as goal

pub check_made-requires : goal.check_made-requires
check_made-requires c =
    let read = c.in_ok-lines.ensures.read c.in_ok-trace.ensures.writable in
    let drawn = c.in_ok-trace.ensures.requests in
    record {
      trace = ap (λ r. r.refused) read;
      certified = certified_by_texts c.args.asked.now c.in_ok-trace.trace.objects c.in_ok-lines.lines.items c.in_ok-texts.texts.cert.items c.in_ok-texts.texts.report.items read (subst (λ made. AreTexts webcache_form c.args.asked.now made (record { dropped = 0; noted = nothing_noted }) c.in_ok-texts.texts.cert.items c.in_ok-texts.texts.report.items) (drawn ∙ ap (λ (r : Requests). all_count r.objects) (sym drawn)) (rw (c.lasting.ensures, c.no_notes.ensures) at c.in_ok-texts.ensures.texts));
    }

pub returns-clause-shown : goal.returns-clause-shown
returns-clause-shown c =
    shown_by c.args.drawing c.args.asked.now c.in_ok-trace.trace c.in_ok-texts.texts.cert.items c.in_ok-texts.texts.report.items c.in_ok-demo_text.field-0.items c.in_ok-replays.replays
    (rw c.drawing.view_is at c.in_ok-trace.ensures.requests) (rw (c.lasting.ensures, c.no_notes.ensures) at c.in_ok-texts.ensures.texts) c.in_ok-replays.ensures
    ((rw (c.drawing.view_is, c.asked.view_is) at c.in_ok-demo_text.ensures) ∙ ap (λ r. demo_text (demo_facts c.args.drawing c.args.asked.now) r c.in_ok-replays.replays) c.deref.ensures.value)
