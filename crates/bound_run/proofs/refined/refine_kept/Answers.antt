use Rattle.std.proofs.Common.{◌∙◌, ap, map, subst, sym, All}
use Prim.Native.Nat.{◌∣◌}
use Rattle.cache_model.specs.declared.intervals.Interval.{Interval}
use Rattle.cache_model.specs.declared.certificates.Record.{Record}
use Rattle.bound_run.proofs.Refining.{refines_ok}
use Rattle.bound_run.proofs.refined.refine_kept.Goals as goal

pub refine-requires-clause-divides : goal.refine-requires-clause-divides
refine-requires-clause-divides c =
    let kept = c.args.kept.now in
    let line = rw (c.terms_of.ensures, c.verdict.ensures, c.trace.ensures) at c.in_ok-intervals.ensures.intervals in
    rw (c.verdict.ensures) (subst (λ items. All (λ (i : Interval). kept.verdict.header.unit ∣ i.size) items) (sym (ap (λ l. l.items) line)) c.requires.valid.unit)

pub returns : goal.returns
returns c =
    let kept = c.args.kept.now in
    let given = c.deref.ensures.value ∙ c.in_ok-prices.ensures ∙ ap (λ records. map (λ (r : Record). r.price) records) c.records.ensures in
    record {
      refined = refines_ok c.args.width kept.trace kept.verdict.header kept.records c.requires.valid c.in_ok-intervals.intervals c.deref.result.now c.refine.result
          (rw (c.terms_of.ensures, c.verdict.ensures, c.trace.ensures) at c.in_ok-intervals.ensures.intervals) given
          c.refine.ensures.each_step c.refine.ensures.last
          (rw c.verdict.ensures at c.refine.ensures.paid) (rw c.verdict.ensures at c.refine.ensures.upper)
          (rw c.verdict.ensures at c.refine.ensures.not_greater) (rw c.verdict.ensures at c.refine.ensures.settled);
    }
