use Rattle.std.proofs.Common.{◌≡◌, ◌∙◌, refl, sym, ap, subst, arith, nat_le, nat_lt, ◌+◌, not, ◌&&◌, List, length, length-append, [], ◌∷◌, rules}
use Rattle.std.proofs.lemmas.Result.{err_from_is_err_and}
use Rattle.bound_io.proofs.KnownLemmas.{loses_then, reads_then_err, reads_then_ok}
use Rattle.bound_io.specs.Devices.{seen}
use Rattle.cache_rules.specs.Stored.{Requests, with_request}
use Rattle.trace_any.specs.declared.fault.TraceFault.TheVariants.{NoMemory, TooManyRequests}
use Rattle.trace_any.specs.Readers.{IsNotLoaded, NotesRequest, Reader, known, last_mark}
use Rattle.trace_any.proofs.Coming.{after_all, goes_nowhere, loads_more, loads_past, loses_nothing, past_room}
use Rattle.trace_any.proofs.Lost.{lost_through}
use Rattle.trace_any.proofs.Stopping.{given_more, nothing_given, rests_after, stands_given, stands_then, through_given}
use Rattle.policy_sweep.specs.Running.{Setting}
use Rattle.policy_stream.specs.Streams.{HasBeenTold, HasBegun}
use Rattle.policy_stream.proofs.Telling.{begun-told}
use Rattle.trace_sweep.specs.Counts.{more}
use Rattle.trace_sweep.specs.declared.fault.SweepFault.TheVariants as sweep
use Rattle.trace_sweep.specs.Faults.{Stops}
use Rattle.trace_sweep.specs.Online.{told_of}
use Rattle.trace_sweep.specs.Swept.{IsTally}
use Rattle.trace_sweep.specs.declared.tally.Tally.{Tally}
use Rattle.trace_sweep.proofs.Stopped.{as_sweep, of_fault, policies-stop, stops-trace}
use Rattle.trace_sweep.proofs.Tallies.{aligned_after, more-le, one-more, tallied_after, told_after}
use Rattle.trace_sweep.proofs.sweeping.sweep_all.Goals as goal

pub loop-object-init : goal.loop-object-init
loop-object-init g c =
    let begins = c.requires.begins in
    let none : Requests = record { objects = []; fills = [] } in
    record {
      trace = none;
      format = refl;
      limits = refl;
      fault = ap (λ (r : Reader). r.fault) begins;
      given = ap (λ (r : Reader). r.given) begins;
      goes_on = goes_nowhere c.args.stream.now [] [] _ refl refl;
      given_all = nothing_given c.args.stream.now none _ refl;
      source = loses_nothing (g.S.Source.left c.args.source.now);
      none_failed = refl;
      seen = c.requires.nothing [];
      warmup = refl;
      delay = refl;
      capacities = refl;
      aligned = record {
        marks = λ _. refl;
        none = λ _. refl;
        stale = λ _. ap (λ (r : Reader). length r.seen.noted.stale) begins;
        own = λ _. ap (λ (r : Reader). length r.seen.noted.own) begins;
        lasting = λ _. ap (λ (r : Reader). r.seen.noted.stale) begins;
      };
      tallied = record { counted = λ _. refl; stale = λ _. refl };
      counted = omega arith;
      stale = omega arith;
      told = λ settings begun.
          begun-told (told_of c.args.stream.now.format c.args.bounds.now.warmup none c.args.stream.now.seen.noted) settings c.args.policies.now refl (sym c.requires.replace) begun;
      known = λ settings begun some. omega arith;
    }

pub loop-object-preserved : goal.loop-object-preserved
loop-object-preserved g c =
    let i = c.loop-object.invariant in
    let n = c.next.ensures in
    let object = c.in-Some.object in
    let old = c.loop-object.stream in
    let new = c.next.new.self in
    let format = c.args.stream.now.format in
    let next = rw (c.in-Some.is) at (c.in_ok-object.ensures.next i.fault) in
    let notes : NotesRequest old new object = rw (c.in-Some.is) at c.in_ok-object.ensures.noted in
    let form : new.format ≡ format = n.format ∙ i.format in
    let told = c.in_ok-request.ensures in
    let size = length-append i.trace.objects (object ∷ []) in
    let seen_now = told_after format old new i.trace object form i.format notes i.aligned c.last_fills.result c.loop-object.bounds c.request.new.self c.last_fills.ensures i.seen told.seen told.seen_unmarked in
    let counts : c.is_counted-counts.result ≡ (nat_le c.args.bounds.now.warmup (length i.trace.objects) && not new.ahead.stamp.fills) =
    c.is_counted-counts.ensures ∙ ap (λ w. nat_le w c.requests.result && not c.last_own.result) c.warmup-warmup.ensures
    ∙ ap (λ t. nat_le c.args.bounds.now.warmup t && not c.last_own.result) (c.requests.ensures ∙ i.seen.requests) ∙ ap (λ own. nat_le c.args.bounds.now.warmup (length i.trace.objects) && not own) c.last_own.ensures in
    let tally : c.with-tally.result ≡ record {
      counted = more c.loop-object.tally.counted (nat_le c.args.bounds.now.warmup (length i.trace.objects) && not new.ahead.stamp.fills);
      stale = more c.loop-object.tally.stale new.stale;
    } = c.with-tally.ensures ∙ ap (λ b. record { counted = more c.loop-object.tally.counted b; stale = more c.loop-object.tally.stale c.last_stale.result }) counts
    ∙ ap (λ b. record { counted = more c.loop-object.tally.counted (nat_le c.args.bounds.now.warmup (length i.trace.objects) && not new.ahead.stamp.fills); stale = more c.loop-object.tally.stale b }) c.last_stale.ensures in
    record {
      trace = with_request i.trace object (last_mark new);
      format = form;
      limits = n.few.0 ∙ i.limits;
      fault = c.in_ok-object.ensures.fault i.fault;
      given = omega (arith, next.0, i.given, size);
      goes_on = loads_more c.args.stream.now old new i.trace object (last_mark new) _ _ _ i.goes_on (next.1);
      given_all = given_more c.args.stream.now old new i.trace object (last_mark new) _ _ (rests_after i.trace c.args.stream.now old _ _ i.goes_on) i.given_all (rw (c.in-Some.is) at (c.in_ok-object.ensures.lines i.fault));
      source = loses_then _ _ _ (n.reads.source.0) i.source (n.reads.source.1);
      none_failed = c.in_ok-object.ensures.reads.none_failed ∙ i.none_failed;
      seen = seen_now;
      warmup = told.warmup ∙ i.warmup;
      delay = told.delay ∙ i.delay;
      capacities = told.capacities ∙ i.capacities;
      aligned = aligned_after format old new i.trace object form i.format notes i.aligned;
      tallied = subst (IsTally format c.args.bounds.now.warmup (with_request i.trace object (last_mark new)) new.seen.noted) (sym tally) (tallied_after format old new i.trace object form i.format notes i.aligned c.args.bounds.now.warmup c.loop-object.tally i.tallied);
      counted = omega (arith, size, i.counted, more-le c.loop-object.tally.counted c.is_counted-counts.result, ap (λ (t : Tally). t.counted) c.with-tally.ensures);
      stale = omega (arith, size, i.stale, more-le c.loop-object.tally.stale c.last_stale.result, ap (λ (t : Tally). t.stale) c.with-tally.ensures);
      told = λ settings begun.
          c.in_ok-tell.ensures.told (told_of format c.args.bounds.now.warmup i.trace old.seen.noted) (told_of format c.args.bounds.now.warmup (with_request i.trace object (last_mark new)) new.seen.noted)
          settings (with_request i.trace object (last_mark new)).fills seen_now
          (one-more format old new i.trace object form i.format notes i.aligned c.args.bounds.now.warmup (omega (arith, next.0, i.given, n.few.1, n.few.2)) _ c.requests-in-Some.result refl
          (c.requests-in-Some.ensures ∙ told.requests ∙ ap (λ m. m + 1) i.seen.requests) (ap (λ w. nat_lt w c.requests-in-Some.result) c.warmup-warmup.ensures) c.last_fills-in-Some.ensures c.last_stale-in-Some.ensures)
          (i.told settings begun);
      known = λ settings begun.
          c.in_ok-tell.ensures.known (told_of format c.args.bounds.now.warmup i.trace old.seen.noted) (told_of format c.args.bounds.now.warmup (with_request i.trace object (last_mark new)) new.seen.noted)
          settings (with_request i.trace object (last_mark new)).fills seen_now (i.told settings begun);
    }

pub returns-in_err-object-clause-reads : goal.returns-in_err-object-clause-reads
returns-in_err-object-clause-reads g c =
    let p = err_from_is_err_and c.from_residual.result c.from_residual.ensures.1 in
    rw (p.1, p.2) (as_sweep (seen g.S.Source.left g.S.Source.faults c.args.source.now c.next.new.source) c.in_err-object.field-0.0 (reads_then_err _ _ _ _ _ _ _ _ c.loop-object.invariant.source c.loop-object.invariant.none_failed c.in_err-object.ensures.reads))

pub returns-then-passes_limit-clause-reads : goal.returns-then-passes_limit-clause-reads
returns-then-passes_limit-clause-reads g c = reads_then_ok _ _ _ _ _ _ _ _ _ _ c.loop-object.invariant.source c.loop-object.invariant.none_failed c.in_ok-object.ensures.reads

pub returns-in_err-request-clause-reads : goal.returns-in_err-request-clause-reads
returns-in_err-request-clause-reads g c = reads_then_ok _ _ _ _ _ _ _ _ _ _ c.loop-object.invariant.source c.loop-object.invariant.none_failed c.in_ok-object.ensures.reads

pub returns-clause-reads : goal.returns-clause-reads
returns-clause-reads g c = reads_then_ok _ _ _ _ _ _ _ _ _ _ c.loop-object.invariant.source c.loop-object.invariant.none_failed c.in_ok-object.ensures.reads

pub returns-in_err-object-clause-stops : goal.returns-in_err-object-clause-stops
returns-in_err-object-clause-stops g c =
    let i = c.loop-object.invariant in
    let first = c.args.stream.now in
    let second = c.loop-object.stream in
    let third = c.next.new.self in
    let source = seen g.S.Source.left g.S.Source.faults c.args.source.now c.next.new.source in
    let fault = c.in_err-object.field-0.0 in
    let stops = c.in_err-object.ensures.no_further i.fault in
    of_fault c.from_residual.result (sweep.Trace fault) (λ f. (settings : List Setting) → HasBegun settings c.args.policies.now → Stops first source settings f) c.from_residual.ensures.1
    (λ settings begun. (
      subst (λ n. IsNotLoaded first (known first source.before) n source.faults_after fault) i.none_failed (stops-trace first second i.trace _ _ i.goes_on third _ _ fault (c.in_err-object.ensures.next i.fault)),
      lost_through first.format first.limits first third source fault c.requires.begins c.next.ensures.ahead
          (stops.0, stands_then (after_all i.trace) first second third _ _ _ (λ s. (refl, refl, refl)) (rests_after i.trace first second _ _ i.goes_on) (through_given i.trace first second _ i.given_all) stops.1),
    ))

pub returns-then-passes_limit-clause-stops : goal.returns-then-passes_limit-clause-stops
returns-then-passes_limit-clause-stops g c =
    let i = c.loop-object.invariant in
    let first = c.args.stream.now in
    let third = c.next.new.self in
    let source = seen g.S.Source.left g.S.Source.faults c.args.source.now c.next.new.source in
    let next = rw (c.in-Some.is) at (c.in_ok-object.ensures.next i.fault) in
    let past = sym c.passes_limit.ensures ∙ c.if-passes_limit.true in
    λ settings begun. (
      loads_past first c.loop-object.stream third i.trace c.in-Some.object (last_mark third) _ _ _ i.goes_on (next.1) (λ bytes. past_room third bytes past),
      lost_through first.format first.limits first third source TooManyRequests c.requires.begins c.next.ensures.ahead
          (tt, stands_given i.trace first c.loop-object.stream third third c.in-Some.object (last_mark third) _ _ (g.S.Source.left c.next.new.source) refl refl i.goes_on i.given_all next.1 (rw (c.in-Some.is) at (c.in_ok-object.ensures.lines i.fault))),
    )

pub returns-in_err-request-clause-stops : goal.returns-in_err-request-clause-stops
returns-in_err-request-clause-stops g c =
    let i = c.loop-object.invariant in
    let first = c.args.stream.now in
    let third = c.next.new.self in
    let source = seen g.S.Source.left g.S.Source.faults c.args.source.now c.next.new.source in
    let next = rw (c.in-Some.is) at (c.in_ok-object.ensures.next i.fault) in
    of_fault c.from_residual-in_err-request.result (sweep.Trace NoMemory) (λ f. (settings : List Setting) → HasBegun settings c.args.policies.now → Stops first source settings f) c.from_residual-in_err-request.ensures.1
    (λ settings begun. (
      tt,
      lost_through first.format first.limits first third source NoMemory c.requires.begins c.next.ensures.ahead
          (tt, stands_given i.trace first c.loop-object.stream third third c.in-Some.object (last_mark third) _ _ (g.S.Source.left c.next.new.source) refl refl i.goes_on i.given_all next.1 (rw (c.in-Some.is) at (c.in_ok-object.ensures.lines i.fault))),
    ))

pub tell-requires-clause-next : goal.tell-requires-clause-next
tell-requires-clause-next g c =
    let i = c.loop-object.invariant in
    let n = c.next.ensures in
    let object = c.in-Some.object in
    let old = c.loop-object.stream in
    let new = c.next.new.self in
    let format = c.args.stream.now.format in
    let next = rw (c.in-Some.is) at (c.in_ok-object.ensures.next i.fault) in
    let notes : NotesRequest old new object = rw (c.in-Some.is) at c.in_ok-object.ensures.noted in
    let form : new.format ≡ format = n.format ∙ i.format in
    let told = c.in_ok-request.ensures in
    let begun = c.requires.begun in
    record {
      told = told_of format c.args.bounds.now.warmup i.trace old.seen.noted;
      next = told_of format c.args.bounds.now.warmup (with_request i.trace object (last_mark new)) new.seen.noted;
      settings = begun.0;
      fills = (with_request i.trace object (last_mark new)).fills;
      been_told = i.told begun.0 begun.1;
      one_more =
          one-more format old new i.trace object form i.format notes i.aligned c.args.bounds.now.warmup (omega (arith, next.0, i.given, n.few.1, n.few.2)) _ c.requests-in-Some.result refl
          (c.requests-in-Some.ensures ∙ told.requests ∙ ap (λ m. m + 1) i.seen.requests) (ap (λ w. nat_lt w c.requests-in-Some.result) c.warmup-warmup.ensures) c.last_fills-in-Some.ensures c.last_stale-in-Some.ensures;
      seen = told_after format old new i.trace object form i.format notes i.aligned c.last_fills.result c.loop-object.bounds c.request.new.self c.last_fills.ensures i.seen told.seen told.seen_unmarked;
    }

pub returns-in_err-tell-clause-reads : goal.returns-in_err-tell-clause-reads
returns-in_err-tell-clause-reads g c = reads_then_ok _ _ _ _ _ _ _ _ _ _ c.loop-object.invariant.source c.loop-object.invariant.none_failed c.in_ok-object.ensures.reads

pub returns-in_err-tell-clause-stops : goal.returns-in_err-tell-clause-stops
returns-in_err-tell-clause-stops g c =
    let i = c.loop-object.invariant in
    let n = c.next.ensures in
    let object = c.in-Some.object in
    let first = c.args.stream.now in
    let old = c.loop-object.stream in
    let new = c.next.new.self in
    let format = c.args.stream.now.format in
    let source = seen g.S.Source.left g.S.Source.faults c.args.source.now c.next.new.source in
    let next = rw (c.in-Some.is) at (c.in_ok-object.ensures.next i.fault) in
    let notes : NotesRequest old new object = rw (c.in-Some.is) at c.in_ok-object.ensures.noted in
    let form : new.format ≡ format = n.format ∙ i.format in
    let told = c.in_ok-request.ensures in
    let given = with_request i.trace object (last_mark new) in
    let fault = c.in_err-tell.field-0.0 in
    let lost =
    lost_through first.format first.limits first new source NoMemory c.requires.begins c.next.ensures.ahead
    (tt, stands_given i.trace first old new new object (last_mark new) _ _ (g.S.Source.left c.next.new.source) refl refl i.goes_on i.given_all next.1 (rw (c.in-Some.is) at (c.in_ok-object.ensures.lines i.fault))) in
    let more =
    one-more format old new i.trace object form i.format notes i.aligned c.args.bounds.now.warmup (omega (arith, next.0, i.given, n.few.1, n.few.2)) _ c.requests-in-Some.result refl
    (c.requests-in-Some.ensures ∙ told.requests ∙ ap (λ m. m + 1) i.seen.requests) (ap (λ w. nat_lt w c.requests-in-Some.result) c.warmup-warmup.ensures) c.last_fills-in-Some.ensures c.last_stale-in-Some.ensures in
    let seen_now = told_after format old new i.trace object form i.format notes i.aligned c.last_fills.result c.loop-object.bounds c.request.new.self c.last_fills.ensures i.seen told.seen told.seen_unmarked in
    of_fault c.from_residual-in_err-tell.result fault (λ f. (settings : List Setting) → HasBegun settings c.args.policies.now → Stops first source settings f) c.from_residual-in_err-tell.ensures.1
    (λ settings begun.
    policies-stop first new source settings given _ fault (loads_more first old new i.trace object (last_mark new) _ _ _ i.goes_on next.1) lost
    (c.in_err-tell.ensures.fault (told_of format c.args.bounds.now.warmup i.trace old.seen.noted) (told_of format c.args.bounds.now.warmup given new.seen.noted) settings given.fills seen_now more (i.told settings begun)))

pub returns-clause-swept : goal.returns-clause-swept
returns-clause-swept g c =
    let i = c.loop-object.invariant in
    let same : c.next.new.self.seen ≡ c.loop-object.stream.seen = rw (c.in_default.is) at c.in_ok-object.ensures.noted in
    record {
      trace = i.trace;
      whole = search rules;
      end = search rules;
      seen_all = search rules;
      seen = i.seen;
      tallied = search rules;
      told = λ settings begun. subst (λ noted. HasBeenTold (told_of c.args.stream.now.format c.args.bounds.now.warmup i.trace noted.noted) settings c.loop-object.policies) (sym same) (i.told settings begun);
      known = i.known;
    }
