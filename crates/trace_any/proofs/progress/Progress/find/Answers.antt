use Rattle.std.proofs.Common.{◌∙◌, refl, [], arith, ap}
use Rattle.std.proofs.lemmas.Result.{err_from_is_err_and}
use Rattle.bound_io.proofs.KnownLemmas.{loses_then, reads_then_err, reads_then_ok}
use Rattle.bound_io.specs.Devices.{seen}
use Rattle.trace_any.specs.FirstLines.{StopsNoFurther}
use Rattle.trace_any.specs.Readers.{last_mark}
use Rattle.trace_any.proofs.Coming.{goes_nowhere, goes_then, loses_nothing}
use Rattle.trace_any.proofs.Stopping.{not_past_ungiven, of_fault, stands_as, stands_then, through_of}
use Rattle.trace_any.proofs.Through.{no_further_given, no_further_then, no_further_yet, rests_on}
use Rattle.trace_any.proofs.progress.Progress.find.Goals as goal

pub returns-in_err-take_line-clause-reads : goal.returns-in_err-take_line-clause-reads
returns-in_err-take_line-clause-reads g c =
    let p = err_from_is_err_and c.from_residual.result c.from_residual.ensures.1 in
    rw (p.1, p.2) (reads_then_err _ _ _ _ _ _ _ _ c.loop-self.invariant.source c.loop-self.invariant.none_failed c.in_err-take_line.ensures.reads)

pub returns-then-not-branch-clause-reads : goal.returns-then-not-branch-clause-reads
returns-then-not-branch-clause-reads g c = reads_then_ok _ _ _ _ _ _ _ _ _ _ c.loop-self.invariant.source c.loop-self.invariant.none_failed c.in_ok-take_line.ensures.reads

pub loop-self-smaller : goal.loop-self-smaller
loop-self-smaller g c =
    let taken = rw (c.if-not-branch.false) at c.in_ok-take_line.ensures.taken in
    omega (arith, taken.0, c.take_line.ensures.within.0, ap (λ limits. limits.bytes) (c.take_line.ensures.still.1))

pub loop-self-preserved : goal.loop-self-preserved
loop-self-preserved g c =
    let i = c.loop-self.invariant in
    let t = c.take_line.ensures in
    let taken = c.in_ok-take_line.ensures in
    let new = rw (c.if-not-branch.false) at taken.taken in
    record {
      format = t.still.0 ∙ i.format;
      limits = t.still.1 ∙ i.limits;
      given = t.still.2 ∙ i.given;
      noted = t.seen ∙ i.noted;
      no_fault = taken.no_fault;
      forgets_none = omega (arith, i.forgets_none, t.forgets_none);
      goes_on = goes_then (c.args.self.now) (c.loop-self.self) (c.take_line.new.self) _ _ _ i.goes_on (new.1);
      lines = no_further_then (c.args.self.now) (c.loop-self.self) (c.take_line.new.self) _ _ (rests_on (c.args.self.now) (c.loop-self.self) _ _ i.goes_on) i.lines (taken.lines (c.if-not-branch.false));
      source = loses_then _ _ _ (t.reads.source.0) i.source (t.reads.source.1);
      untouched = λ some. absurd (omega (arith, some, ap (λ r. r.ahead.count) (i.untouched some).0, c.loop-self-test.true, ap (λ r. r.ahead.count) c.self.view_is));
      none_failed = taken.reads.none_failed ∙ i.none_failed;
    }

pub loop-self-init : goal.loop-self-init
loop-self-init g c = record {
  format = refl;
  limits = refl;
  given = refl;
  noted = refl;
  no_fault = c.requires.no_fault;
  forgets_none = omega arith;
  goes_on = goes_nowhere c.args.self.now [] [] _ refl refl;
  lines = no_further_yet c.args.self.now _;
  source = loses_nothing (g.S.Source.left c.args.source.now);
  untouched = λ _. (refl, (refl, refl));
  none_failed = refl;
}

pub returns-clause-lines : goal.returns-clause-lines
returns-clause-lines g c = no_further_given c.args.self.now c.loop-self.self c.give.new.self c.in_ok-give.field-0 (last_mark c.give.new.self) _ c.give.ensures.still.0 c.give.ensures.still.2 c.in_ok-give.ensures.given_in c.loop-self.invariant.lines

pub returns-in_err-take_line-clause-no_further : goal.returns-in_err-take_line-clause-no_further
returns-in_err-take_line-clause-no_further g c =
    let i = c.loop-self.invariant in
    let first = c.args.self.now in
    let second = c.loop-self.self in
    let third = c.take_line.new.self in
    let stops = c.in_err-take_line.ensures.no_further in
    of_fault c.from_residual.result c.in_err-take_line.field-0.0 (StopsNoFurther first third (seen g.S.Source.left g.S.Source.faults c.args.source.now c.take_line.new.source)) c.from_residual.ensures.1
    (stops.0, stands_then (λ s. s) first second third _ _ _ (λ s. (refl, refl, refl)) (rests_on first second _ _ i.goes_on) (through_of _ _ _ _ i.lines) stops.1)

pub returns-in_err-give-clause-no_further : goal.returns-in_err-give-clause-no_further
returns-in_err-give-clause-no_further g c =
    let i = c.loop-self.invariant in
    let first = c.args.self.now in
    let second = c.loop-self.self in
    let third = c.give.new.self in
    let still = c.give.ensures.still in
    let fault = c.in_err-give.field-0.0 in
    of_fault c.from_residual-in_err-give.result fault (StopsNoFurther first third (seen g.S.Source.left g.S.Source.faults c.args.source.now c.loop-self.source)) c.from_residual-in_err-give.ensures.1
    (not_past_ungiven second third fault c.in_err-give.ensures.ungiven, stands_then (λ s. s) first second third _ _ _ (λ s. (refl, refl, refl)) (rests_on first second _ _ i.goes_on) (through_of _ _ _ _ i.lines) (stands_as second third _ still.2 still.3))
