use Rattle.std.proofs.Common.{◌≡◌, ◌∙◌, ℕ, List, ap, cond, length, None, Some}
use Rattle.std.proofs.lemmas.Result.{IfOk-weaker}
use Rattle.bit_list.specs.Bits.{bits_of}
use Rattle.cache_model.specs.Objects.{objects_of}
use Rattle.bound_report.specs.Judged.{judged_lines}
use Rattle.bound_report.specs.Rendering.{rendered}
use Rattle.cache_model.specs.declared.objects.Objective.TheVariants.{Object as Hits, Bytes}
use Rattle.freshness.specs.Seen.{noted_of}
use Rattle.trace_any.specs.Readers.{Notes}
use Rattle.run_counts.specs.Countings.{counting_from}
use Rattle.bound_run.specs.Judgements.{claimed_by, judged_facts, judged_report}
use Rattle.bound_run.proofs.judging.judged_report.Goals as goal

pub returns : goal.returns
returns c =
    let claims = c.args.claims.now in
    let trace = claims.trace in
    let flags = bits_of claims.flags in
    let noted_is : noted_of c.notes.inside.noted ≡ claims.notes.noted = ap (λ (n : Notes). n.noted) (c.notes.view_is ∙ c.requires.notes) in
    let dropped_is : c.notes.inside.dropped ≡ claims.notes.dropped = ap (λ (n : Notes). n.dropped) (c.notes.view_is ∙ c.requires.notes) in
    let counting_is : c.counting_from.result ≡ counting_from c.args.format c.args.asked.warmup trace claims.notes.noted = c.counting_from.ensures ∙ ap (counting_from c.args.format c.args.asked.warmup trace) noted_is in
    let report : ℕ → ℕ → ℕ → List ℕ
    = λ hits bytes written. rendered c.counting_from.result (judged_lines (record {
      requests = length trace.objects;
      objects = length (objects_of trace.objects);
      dropped = claims.notes.dropped;
      capacity = c.args.asked.capacity;
      claimed = record { hits = hits; bytes = bytes; written = written };
      written = cond c.args.asked.writes (Some written) None;
    })) in
    IfOk-weaker c.render.result
    (λ text. text.items ≡ report c.args.claimed.hits c.args.claimed.bytes c.args.claimed.written)
    (λ text. text.items ≡ judged_report c.args.format c.args.asked trace claims.notes (bits_of claims.flags))
    (λ text is. is ∙ (ap (λ hits. report hits c.args.claimed.bytes c.args.claimed.written) c.requires.hits ∙ ap (λ bytes. report (claimed_by Hits c.args.asked trace flags) bytes c.args.claimed.written) c.requires.bytes
    ∙ ap (report (claimed_by Hits c.args.asked trace flags) (claimed_by Bytes c.args.asked trace flags)) c.requires.written
    ∙ ap (λ counting. rendered counting (judged_lines (judged_facts c.args.asked trace claims.notes.dropped (bits_of claims.flags)))) counting_is))
    (rw (dropped_is, c.len.ensures.requests, c.objects.ensures.different, c.if_counted.ensures) at c.render.ensures)
