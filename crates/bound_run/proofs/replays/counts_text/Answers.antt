use Rattle.std.proofs.Common.{◌≡◌, ◌∙◌, ap}
use Rattle.std.proofs.lemmas.Result.{IfOk-weaker}
use Rattle.bound_report.specs.Rendering.{rendered}
use Rattle.bound_report.specs.Replays.{replay_lines}
use Rattle.bound_words.specs.declared.plans.ReplaySettings.{ReplaySettings}
use Rattle.freshness.specs.Seen.{noted_of}
use Rattle.trace_any.specs.Readers.{Notes}
use Rattle.run_counts.specs.Countings.{counting_from}
use Rattle.bound_run.specs.Replays.{IsCountsText, replay_facts}
use Rattle.bound_run.proofs.replays.counts_text.Goals as goal

pub returns : goal.returns
returns c =
    let noted_is : noted_of c.notes.inside.noted ≡ c.args.notes.now.noted = ap (λ (n : Notes). n.noted) c.notes.view_is in
    let dropped_is : c.notes.inside.dropped ≡ c.args.notes.now.dropped = ap (λ (n : Notes). n.dropped) c.notes.view_is in
    let trace = c.args.trace.now in
    let replay = c.args.replay in
    let lines = replay_lines (replay_facts c.args.r trace c.args.notes.now.dropped replay) in
    let counting : c.counting_from.result ≡ counting_from c.args.format c.args.r.warmup trace c.args.notes.now.noted =
    c.counting_from.ensures ∙ ap (λ (s : ReplaySettings). counting_from c.args.format s.warmup trace (noted_of c.notes.inside.noted)) c.r.view_is ∙ ap (counting_from c.args.format c.args.r.warmup trace) noted_is in
    IfOk-weaker c.render.result
    (λ text. text.items ≡ rendered c.counting_from.result lines)
    (λ text. IsCountsText c.args.format c.args.r trace c.args.notes.now text.items)
    (λ text is. record { replay = replay; is_replay = c.requires; text_is = is ∙ ap (λ counting. rendered counting lines) counting })
    (rw (c.len.ensures.requests, c.objects.ensures.different, c.if_counted.ensures, c.r.view_is, dropped_is) at c.render.ensures)
