use Rattle.std.proofs.Common.{◌≡◌, ◌∙◌, refl, sym, ap, arith, length, length-append, None, [], ◌∷◌}
use Rattle.std.proofs.lemmas.Result.{err_from_is_err_and}
use Rattle.bound_io.proofs.KnownLemmas.{loses_then, reads_then_err, reads_then_ok}
use Rattle.bound_io.specs.Devices.{seen}
use Rattle.trace_any.specs.declared.fault.TraceFault.TheVariants.{NoMemory}
use Rattle.trace_any.specs.FirstLines.{StopsNoFurther}
use Rattle.trace_any.specs.Readers.{Reader, last_mark}
use Rattle.trace_any.proofs.Coming.{after_all, goes_nowhere, loads_all, loads_more, loads_past, loads_to_end, loses_nothing, no_error, no_fault, of_any_fault, past_room}
use Rattle.trace_any.proofs.Lost.{lost_if, lost_through}
use Rattle.trace_any.proofs.Stopping.{given_more, nothing_given, of_fault, rests_after, stands_as, stands_given, stands_then, through_given}
use Rattle.trace_any.proofs.loading.load.Goals as goal

pub loop-requests-init : goal.loop-requests-init
loop-requests-init g c =
    let empty : c.in_ok-requests.requests.requests ≡ record { objects = []; fills = [] } = ap (λ b. b.requests) c.in_ok-requests.ensures in
    record {
      format = refl;
      kept = ap (λ b. b.marks) c.in_ok-requests.ensures;
      limits = refl;
      fault = refl;
      given = rw empty (omega arith);
      goes_on = λ _. goes_nowhere c.args.reader.now c.in_ok-requests.requests.requests.objects c.in_ok-requests.requests.requests.fills _ (ap (λ r. r.objects) empty) (ap (λ r. r.fills) empty);
      given_all = λ _. nothing_given c.args.reader.now c.in_ok-requests.requests.requests _ empty;
      unread = of_any_fault c.args.reader.now.fault (refl, refl, refl);
      source = loses_nothing (g.S.Source.left c.args.source.now);
      none_failed = refl;
    }

pub returns-in_err-object-clause-reads : goal.returns-in_err-object-clause-reads
returns-in_err-object-clause-reads g c =
    let p = err_from_is_err_and c.from_residual-in_err-object.result c.from_residual-in_err-object.ensures.1 in
    rw (p.1, p.2) (reads_then_err _ _ _ _ _ _ _ _ c.loop-requests.invariant.source c.loop-requests.invariant.none_failed c.in_err-object.ensures.reads)

pub loop-requests-preserved : goal.loop-requests-preserved
loop-requests-preserved g c =
    let i = c.loop-requests.invariant in
    let n = c.next.ensures in
    let object = c.in-Some.object in
    let given = c.loop-requests.requests.requests in
    let none : c.loop-requests.reader.fault ≡ None = no_fault c.loop-requests.reader.fault _ (c.in_ok-object.ensures.again) (λ f again. no_error c.in_ok-object.field-0 f again.0) in
    let next = rw (c.in-Some.is) at (c.in_ok-object.ensures.next none) in
    let pushed = c.in_default-push_given.ensures.ok in
    record {
      format = n.format ∙ i.format;
      kept = ap (λ b. b.marks) pushed ∙ i.kept;
      limits = n.few.0 ∙ i.limits;
      fault = c.in_ok-object.ensures.fault none ∙ (sym none ∙ i.fault);
      given = rw pushed (omega (arith, next.0, i.given, length-append given.objects (object ∷ [])));
      goes_on = λ fresh. rw pushed (loads_more c.args.reader.now c.loop-requests.reader c.next.new.self given object (last_mark c.next.new.self) _ _ _ (i.goes_on fresh) (next.1));
      given_all = λ fresh. rw pushed (given_more c.args.reader.now c.loop-requests.reader c.next.new.self given object (last_mark c.next.new.self) _ _ (rests_after given c.args.reader.now c.loop-requests.reader _ _ (i.goes_on fresh)) (i.given_all fresh) (rw (c.in-Some.is) at (c.in_ok-object.ensures.lines none)));
      unread = rw (← i.fault, none) tt;
      source = loses_then _ _ _ (n.reads.source.0) i.source (n.reads.source.1);
      none_failed = c.in_ok-object.ensures.reads.none_failed ∙ i.none_failed;
    }

pub returns-in-Err-clause-reads : goal.returns-in-Err-clause-reads
returns-in-Err-clause-reads g c = reads_then_ok _ _ _ _ _ _ _ _ _ _ c.loop-requests.invariant.source c.loop-requests.invariant.none_failed c.in_ok-object.ensures.reads

pub returns-clause-reads : goal.returns-clause-reads
returns-clause-reads g c = reads_then_ok _ _ _ _ _ _ _ _ _ _ c.loop-requests.invariant.source c.loop-requests.invariant.none_failed c.in_ok-object.ensures.reads

pub loop-requests-smaller : goal.loop-requests-smaller
loop-requests-smaller g c =
    let none : c.loop-requests.reader.fault ≡ None = no_fault c.loop-requests.reader.fault _ (c.in_ok-object.ensures.again) (λ f again. no_error c.in_ok-object.field-0 f again.0) in
    let next = rw (c.in-Some.is) at (c.in_ok-object.ensures.next none) in
    omega (arith, next.0, c.next.ensures.few.1, ap (λ limits. limits.requests) (c.next.ensures.few.0))

pub returns-clause-whole : goal.returns-clause-whole
returns-clause-whole g c =
    let i = c.loop-requests.invariant in λ fresh.
    let next = rw (c.in_default.is) at (c.in_ok-object.ensures.next (i.fault ∙ fresh)) in
    rw (c.finish.ensures, c.dropped.ensures) (loads_all c.args.reader.now c.loop-requests.reader c.next.new.self c.loop-requests.requests.requests.objects c.loop-requests.requests.requests.fills _ _ _ (i.goes_on fresh) next)

pub returns-clause-end : goal.returns-clause-end
returns-clause-end g c =
    let i = c.loop-requests.invariant in λ fresh.
    let next = rw (c.in_default.is) at (c.in_ok-object.ensures.next (i.fault ∙ fresh)) in
    loads_to_end c.args.reader.now c.loop-requests.reader c.next.new.self c.loop-requests.requests.requests.objects c.loop-requests.requests.requests.fills _ _ _ (i.goes_on fresh) next

pub returns-then-passes_limit-clause-refused : goal.returns-then-passes_limit-clause-refused
returns-then-passes_limit-clause-refused g c =
    let i = c.loop-requests.invariant in λ fresh.
    let next = rw (c.in-Some.is) at (c.in_ok-object.ensures.next (i.fault ∙ fresh)) in
    let past = sym c.passes_limit.ensures ∙ c.if-passes_limit.true in
    rw (c.refuse_rest.ensures.fault) (loads_past c.args.reader.now c.loop-requests.reader c.next.new.self c.loop-requests.requests.requests c.in-Some.object (last_mark c.next.new.self) _ _ _ (i.goes_on fresh) (next.1) (λ bytes. past_room c.next.new.self bytes past))

pub returns-then-passes_limit-clause-reads : goal.returns-then-passes_limit-clause-reads
returns-then-passes_limit-clause-reads g c = reads_then_ok _ _ _ _ _ _ _ _ _ _ c.loop-requests.invariant.source c.loop-requests.invariant.none_failed c.in_ok-object.ensures.reads

pub returns-in_err-requests-clause-no_further : goal.returns-in_err-requests-clause-no_further
returns-in_err-requests-clause-no_further g c = λ _.
    of_fault c.from_residual.result NoMemory (StopsNoFurther c.args.reader.now c.args.reader.now (seen g.S.Source.left g.S.Source.faults c.args.source.now c.args.source.now)) c.from_residual.ensures.1
    (tt, stands_as c.args.reader.now c.args.reader.now _ refl refl)

pub returns-in_err-object-clause-no_further : goal.returns-in_err-object-clause-no_further
returns-in_err-object-clause-no_further g c = λ fresh.
    let i = c.loop-requests.invariant in
    let given = c.loop-requests.requests.requests in
    let first = c.args.reader.now in
    let second = c.loop-requests.reader in
    let third = c.next.new.self in
    let stops = c.in_err-object.ensures.no_further (i.fault ∙ fresh) in
    of_fault c.from_residual-in_err-object.result c.in_err-object.field-0.0 (StopsNoFurther first third (seen g.S.Source.left g.S.Source.faults c.args.source.now c.next.new.source)) c.from_residual-in_err-object.ensures.1
    (stops.0, stands_then (after_all given) first second third _ _ _ (λ s. (refl, refl, refl)) (rests_after given first second _ _ (i.goes_on fresh)) (through_given given first second _ (i.given_all fresh)) stops.1)

pub returns-then-passes_limit-clause-no_further : goal.returns-then-passes_limit-clause-no_further
returns-then-passes_limit-clause-no_further g c = λ fresh.
    let i = c.loop-requests.invariant in
    let given = c.loop-requests.requests.requests in
    let none = i.fault ∙ fresh in
    let stands = stands_given given c.args.reader.now c.loop-requests.reader c.next.new.self c.refuse_rest.new.self c.in-Some.object (last_mark c.next.new.self) _ _ (g.S.Source.left c.next.new.source) (ap (λ r. r.lines) c.refuse_rest.ensures.kept) (ap (λ r. r.dropped) c.refuse_rest.ensures.kept)
    (i.goes_on fresh) (i.given_all fresh) (rw (c.in-Some.is) at (c.in_ok-object.ensures.next none)).1 (rw (c.in-Some.is) at (c.in_ok-object.ensures.lines none)) in
    rw (c.refuse_rest.ensures.fault) (tt, stands)

pub returns-in-Err-clause-no_further : goal.returns-in-Err-clause-no_further
returns-in-Err-clause-no_further g c = λ fresh.
    let i = c.loop-requests.invariant in
    let given = c.loop-requests.requests.requests in
    let none = i.fault ∙ fresh in
    let stands = stands_given given c.args.reader.now c.loop-requests.reader c.next.new.self c.refuse_rest-in-Err.new.self c.in-Some.object (last_mark c.next.new.self) _ _ (g.S.Source.left c.next.new.source) (ap (λ r. r.lines) c.refuse_rest-in-Err.ensures.kept) (ap (λ r. r.dropped) c.refuse_rest-in-Err.ensures.kept)
    (i.goes_on fresh) (i.given_all fresh) (rw (c.in-Some.is) at (c.in_ok-object.ensures.next none)).1 (rw (c.in-Some.is) at (c.in_ok-object.ensures.lines none)) in
    rw (c.refuse_rest-in-Err.ensures.fault) (tt, stands)

pub returns-in_err-requests-clause-lost : goal.returns-in_err-requests-clause-lost
returns-in_err-requests-clause-lost g c = λ begins.
    lost_if c.from_residual.result c.args.reader.now c.args.reader.now (seen g.S.Source.left g.S.Source.faults c.args.source.now c.args.source.now) begins (omega (arith, ap (λ (r : Reader). length r.lines.held) begins))
    (returns-in_err-requests-clause-no_further g c (ap (λ (r : Reader). r.fault) begins))

pub returns-in_err-object-clause-lost : goal.returns-in_err-object-clause-lost
returns-in_err-object-clause-lost g c = λ begins.
    lost_if c.from_residual-in_err-object.result c.args.reader.now c.next.new.self (seen g.S.Source.left g.S.Source.faults c.args.source.now c.next.new.source) begins c.next.ensures.ahead
    (returns-in_err-object-clause-no_further g c (ap (λ (r : Reader). r.fault) begins))

pub returns-then-passes_limit-clause-lost : goal.returns-then-passes_limit-clause-lost
returns-then-passes_limit-clause-lost g c = λ begins.
    lost_through c.args.reader.now.format c.args.reader.now.limits c.args.reader.now c.refuse_rest.new.self (seen g.S.Source.left g.S.Source.faults c.args.source.now c.next.new.source) c.refuse_rest.result begins
    (omega (arith, c.next.ensures.ahead, ap (λ (r : Reader). length r.lines.held) c.refuse_rest.ensures.kept)) (returns-then-passes_limit-clause-no_further g c (ap (λ (r : Reader). r.fault) begins))

pub returns-in-Err-clause-lost : goal.returns-in-Err-clause-lost
returns-in-Err-clause-lost g c = λ begins.
    lost_through c.args.reader.now.format c.args.reader.now.limits c.args.reader.now c.refuse_rest-in-Err.new.self (seen g.S.Source.left g.S.Source.faults c.args.source.now c.next.new.source) c.refuse_rest-in-Err.result begins
    (omega (arith, c.next.ensures.ahead, ap (λ (r : Reader). length r.lines.held) c.refuse_rest-in-Err.ensures.kept)) (returns-in-Err-clause-no_further g c (ap (λ (r : Reader). r.fault) begins))
