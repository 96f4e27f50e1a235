use Rattle.std.proofs.Common.{◌≡◌, ◌∙◌, refl, sym, ap, arith, length, length-append, [], ◌∷◌, ◌++◌}
use Rattle.std.proofs.lemmas.Result.{err_from_is_err_and}
use Rattle.bound_io.proofs.KnownLemmas.{loses_then, reads_then_err, reads_then_ok}
use Rattle.bound_io.specs.Devices.{seen}
use Rattle.trace_any.specs.declared.fault.TraceFault.TheVariants.{NoMemory, TooManyRequests}
use Rattle.trace_any.specs.FirstLines.{HasLostThrough, StopsNoFurther}
use Rattle.trace_any.specs.Readings.{full_limits}
use Rattle.trace_any.specs.Readers.{last_mark}
use Rattle.trace_any.proofs.Coming.{after_all, loads_more, loads_past, past_room}
use Rattle.trace_any.proofs.Lost.{lost_through}
use Rattle.trace_any.proofs.Stopping.{given_more, of_fault, rests_after, stands_given, stands_then, through_given}
use Rattle.trace_times.proofs.Times.{adds_time}
use Rattle.trace_times.proofs.read_timed.read_on.Goals as goal

pub returns-in_err-object-clause-reads : goal.returns-in_err-object-clause-reads
returns-in_err-object-clause-reads g c =
    let p = err_from_is_err_and c.from_residual-in_err-object.result c.from_residual-in_err-object.ensures.1 in
    rw (p.1, p.2) (reads_then_err _ _ _ _ _ _ _ _ c.loop-times.invariant.source c.loop-times.invariant.none_failed c.in_err-object.ensures.reads)

pub loop-times-preserved : goal.loop-times-preserved
loop-times-preserved g c =
    let i = c.loop-times.invariant in
    let n = c.next.ensures in
    let object = c.in-Some.object in
    let given = c.loop-times.requests.requests in
    let next = rw (c.in-Some.is) at (c.in_ok-object.ensures.next i.fault) in
    let noted = rw (c.in-Some.is) at (c.in_ok-object.ensures.noted) in
    let pushed = c.in_ok-push_given.ensures.ok in
    record {
      format = n.format ∙ i.format;
      kept = ap (λ b. b.marks) pushed ∙ i.kept;
      limits = n.few.0 ∙ i.limits;
      fault = c.in_ok-object.ensures.fault i.fault;
      given = rw pushed (omega (arith, next.0, i.given, length-append given.objects (object ∷ [])));
      times = c.in_ok-push_time.ensures ∙ ap (λ l. l ++ c.last_time.result ∷ []) i.times ∙ ap (λ t. c.loop-times.reader.seen.times ++ t ∷ []) c.last_time.ensures
          ∙ sym (ap (λ s. s.times) noted.0 ∙ adds_time c.loop-times.reader.format.fresh c.loop-times.reader.seen object _ _ (rw i.format c.requires.timed));
      each = rw pushed (omega (arith, i.each, ap length c.in_ok-push_time.ensures, length-append c.loop-times.times.items (c.last_time.result ∷ []), length-append given.objects (object ∷ [])));
      goes_on = rw pushed (loads_more c.args.reader.now c.loop-times.reader c.next.new.self given object (last_mark c.next.new.self) _ _ _ i.goes_on (next.1));
      given_all = rw pushed (given_more c.args.reader.now c.loop-times.reader c.next.new.self given object (last_mark c.next.new.self) _ _ (rests_after given c.args.reader.now c.loop-times.reader _ _ i.goes_on) i.given_all (rw (c.in-Some.is) at (c.in_ok-object.ensures.lines i.fault)));
      source = loses_then _ _ _ (n.reads.source.0) i.source (n.reads.source.1);
      none_failed = c.in_ok-object.ensures.reads.none_failed ∙ i.none_failed;
    }

pub returns-in_err-push_given-clause-reads : goal.returns-in_err-push_given-clause-reads
returns-in_err-push_given-clause-reads g c =
    let p = err_from_is_err_and c.from_residual-in_err-push_given.result c.from_residual-in_err-push_given.ensures.1 in
    rw (p.1, p.2) (reads_then_ok _ _ _ _ _ _ _ _ _ _ c.loop-times.invariant.source c.loop-times.invariant.none_failed c.in_ok-object.ensures.reads)

pub returns-in_err-push_time-clause-reads : goal.returns-in_err-push_time-clause-reads
returns-in_err-push_time-clause-reads g c =
    let p = err_from_is_err_and c.from_residual-in_err-push_time.result c.from_residual-in_err-push_time.ensures.1 in
    rw (p.1, p.2) (reads_then_ok _ _ _ _ _ _ _ _ _ _ c.loop-times.invariant.source c.loop-times.invariant.none_failed c.in_ok-object.ensures.reads)

pub returns-clause-reads : goal.returns-clause-reads
returns-clause-reads g c = reads_then_ok _ _ _ _ _ _ _ _ _ _ c.loop-times.invariant.source c.loop-times.invariant.none_failed c.in_ok-object.ensures.reads

pub returns-then-passes_limit-clause-refused : goal.returns-then-passes_limit-clause-refused
returns-then-passes_limit-clause-refused g c =
    let i = c.loop-times.invariant in
    let next = rw (c.in-Some.is) at (c.in_ok-object.ensures.next i.fault) in
    let past = sym c.passes_limit.ensures ∙ c.if-passes_limit.true in
    loads_past c.args.reader.now c.loop-times.reader c.next.new.self c.loop-times.requests.requests c.in-Some.object (last_mark c.next.new.self) _ _ _ i.goes_on (next.1) (λ bytes. past_room c.next.new.self bytes past)

pub returns-then-passes_limit-clause-reads : goal.returns-then-passes_limit-clause-reads
returns-then-passes_limit-clause-reads g c = reads_then_ok _ _ _ _ _ _ _ _ _ _ c.loop-times.invariant.source c.loop-times.invariant.none_failed c.in_ok-object.ensures.reads

pub returns-in_err-object-clause-lost : goal.returns-in_err-object-clause-lost
returns-in_err-object-clause-lost g c =
    let i = c.loop-times.invariant in
    let given = c.loop-times.requests.requests in
    let first = c.args.reader.now in
    let second = c.loop-times.reader in
    let third = c.next.new.self in
    let stops = c.in_err-object.ensures.no_further i.fault in
    let source = seen g.S.Source.left g.S.Source.faults c.args.source.now c.next.new.source in
    let now : StopsNoFurther first third source c.in_err-object.field-0.0 = (stops.0, stands_then (after_all given) first second third _ _ _ (λ s. (refl, refl, refl)) (rests_after given first second _ _ i.goes_on) (through_given given first second _ i.given_all) stops.1) in
    of_fault c.from_residual-in_err-object.result c.in_err-object.field-0.0 (HasLostThrough first.format full_limits (seen g.S.Source.left g.S.Source.faults c.args.source.now c.next.new.source)) c.from_residual-in_err-object.ensures.1
    (lost_through first.format full_limits first third source c.in_err-object.field-0.0 c.requires.new c.next.ensures.ahead now)

pub returns-then-passes_limit-clause-lost : goal.returns-then-passes_limit-clause-lost
returns-then-passes_limit-clause-lost g c =
    let i = c.loop-times.invariant in
    let stands = stands_given c.loop-times.requests.requests c.args.reader.now c.loop-times.reader c.next.new.self c.next.new.self c.in-Some.object (last_mark c.next.new.self) _ _ (g.S.Source.left c.next.new.source) refl refl
    i.goes_on i.given_all (rw (c.in-Some.is) at (c.in_ok-object.ensures.next i.fault)).1 (rw (c.in-Some.is) at (c.in_ok-object.ensures.lines i.fault)) in
    lost_through c.args.reader.now.format full_limits c.args.reader.now c.next.new.self (seen g.S.Source.left g.S.Source.faults c.args.source.now c.next.new.source) TooManyRequests c.requires.new c.next.ensures.ahead (tt, stands)

pub returns-in_err-push_given-clause-lost : goal.returns-in_err-push_given-clause-lost
returns-in_err-push_given-clause-lost g c =
    let i = c.loop-times.invariant in
    let stands = stands_given c.loop-times.requests.requests c.args.reader.now c.loop-times.reader c.next.new.self c.next.new.self c.in-Some.object (last_mark c.next.new.self) _ _ (g.S.Source.left c.next.new.source) refl refl
    i.goes_on i.given_all (rw (c.in-Some.is) at (c.in_ok-object.ensures.next i.fault)).1 (rw (c.in-Some.is) at (c.in_ok-object.ensures.lines i.fault)) in
    of_fault c.from_residual-in_err-push_given.result NoMemory (HasLostThrough c.args.reader.now.format full_limits (seen g.S.Source.left g.S.Source.faults c.args.source.now c.next.new.source)) c.from_residual-in_err-push_given.ensures.1
    (lost_through c.args.reader.now.format full_limits c.args.reader.now c.next.new.self (seen g.S.Source.left g.S.Source.faults c.args.source.now c.next.new.source) NoMemory c.requires.new c.next.ensures.ahead (tt, stands))

pub returns-in_err-push_time-clause-lost : goal.returns-in_err-push_time-clause-lost
returns-in_err-push_time-clause-lost g c =
    let i = c.loop-times.invariant in
    let stands = stands_given c.loop-times.requests.requests c.args.reader.now c.loop-times.reader c.next.new.self c.next.new.self c.in-Some.object (last_mark c.next.new.self) _ _ (g.S.Source.left c.next.new.source) refl refl
    i.goes_on i.given_all (rw (c.in-Some.is) at (c.in_ok-object.ensures.next i.fault)).1 (rw (c.in-Some.is) at (c.in_ok-object.ensures.lines i.fault)) in
    of_fault c.from_residual-in_err-push_time.result NoMemory (HasLostThrough c.args.reader.now.format full_limits (seen g.S.Source.left g.S.Source.faults c.args.source.now c.next.new.source)) c.from_residual-in_err-push_time.ensures.1
    (lost_through c.args.reader.now.format full_limits c.args.reader.now c.next.new.self (seen g.S.Source.left g.S.Source.faults c.args.source.now c.next.new.source) NoMemory c.requires.new c.next.ensures.ahead (tt, stands))
