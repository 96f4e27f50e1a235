use Rattle.std.proofs.Common.{◌≡◌, ◌+◌, ◌∙◌, ℕ, List, Option, refl, sym, length, IfSome, ap, subst, arith, length-append, Some, None, [], ◌∷◌, ◌++◌, ◌⊎◌, inl, inr}
use Rattle.std.proofs.lemmas.Result.{err_from_is_err_and}
use Rattle.bit_list.specs.Bits.{bits_of}
use Rattle.bound_io.specs.Devices.{seen}
use Rattle.bound_io.specs.Lines.{stands_in}
use Rattle.bound_io.proofs.KnownLemmas.{loses_then}
use Rattle.trace_any.specs.Readers.{IsStopped, IsWhole, last_mark, known as trace_known}
use Rattle.cache_rules.specs.Stored.{with_request}
use Rattle.trace_any.specs.FirstLines.{HasLostFor}
use Rattle.trace_any.specs.Readings.{full_limits}
use Rattle.trace_any.specs.declared.fault.TraceFault.{TraceFault}
use Rattle.trace_any.specs.declared.fault.TraceFault.TheVariants as of_trace
use Rattle.hit_flags.specs.declared.fault.FlagFault.{FlagFault}
use Rattle.hit_flags.specs.declared.fault.FlagFault.TheVariants.{Trace, ReadFault}
use Rattle.hit_flags.specs.Lines.{nothing_read}
use Rattle.trace_any.proofs.Stopping.{given_more, nothing_given, rests_after, stands_then, through_given}
use Rattle.trace_any.proofs.Coming.{after_all, goes_nowhere, loses_nothing, loads_all, loads_more, loads_to_end}
use Rattle.trace_any.proofs.Loads.{from_start, nothing_left}
use Rattle.trace_any.proofs.Lost.{lost_through}
use Rattle.hit_flags.proofs.Ends.{HasFlags, all_flags, flag_unread, more_flags, more_unread, no_flags, none_follows, noted_at_end, one_follows, over_at_end, stands_in-nothing, trace_unread}
use Rattle.hit_flags.proofs.Near.{lost_all, lost_flags, lost_given, lost_lines, near_turn, past_nothing, past_then}
use Rattle.hit_flags.proofs.claims.read_turns.Goals as goal

-- what stops the trace is a failed read of it, or none failed
calm_trace : (fault : TraceFault) (before between after : ℕ) → (fault ≡ of_trace.ReadFault) ⊎ (after ≡ between) → between ≡ before → (Trace fault ≡ Trace of_trace.ReadFault) ⊎ (after ≡ before)
calm_trace fault before between after (inl read) same = inl (ap (λ f. Trace f) read)
calm_trace fault before between after (inr none) same = inr (none ∙ same)

-- what stops the flags is a failed read of them, or none failed
calm_hits : (fault : FlagFault) (before between after : ℕ) → (fault ≡ ReadFault) ⊎ (after ≡ between) → between ≡ before → (fault ≡ ReadFault) ⊎ (after ≡ before)
calm_hits fault before between after (inl read) same = inl read
calm_hits fault before between after (inr none) same = inr (none ∙ same)

pub returns-in_err-object-clause-unread : goal.returns-in_err-object-clause-unread
returns-in_err-object-clause-unread g c =
    let i = c.loop-flags.invariant in
    let p = err_from_is_err_and c.from_residual-in_err-object.result c.from_residual-in_err-object.ensures.1 in
    let trace = seen g.T.Source.left g.T.Source.faults c.args.trace.now c.next.new.source in
    let hits = seen g.H.Source.left g.H.Source.faults c.args.hits.now c.loop-flags.hits in
    let why = subst (λ n. IsStopped c.loop-flags.reader c.next.new.self (trace_known c.loop-flags.reader (g.T.Source.left c.loop-flags.trace)) n (g.T.Source.faults c.next.new.source) c.in_err-object.field-0.0) i.trace_faults (c.in_err-object.ensures.next i.fault) in
    rw (p.1, p.2) (trace_unread c.args.reader.format trace hits c.args.reader c.loop-flags.reader c.next.new.self c.loop-flags.requests.requests (bits_of c.loop-flags.flags) c.loop-flags.lines _ _ c.in_err-object.field-0.0 c.requires.reader i.goes_on i.as_many i.flagged why)

pub returns-in_err-object-clause-trace_source : goal.returns-in_err-object-clause-trace_source
returns-in_err-object-clause-trace_source g c = loses_then _ _ _ (c.next.ensures.reads.source.0) (c.loop-flags.invariant.trace_source) (c.next.ensures.reads.source.1)

pub returns-in_err-flag-clause-unread : goal.returns-in_err-flag-clause-unread
returns-in_err-flag-clause-unread g c =
    let i = c.loop-flags.invariant in
    let p = err_from_is_err_and c.from_residual-in_err-flag.result c.from_residual-in_err-flag.ensures.1 in
    let trace = seen g.T.Source.left g.T.Source.faults c.args.trace.now c.next.new.source in
    let hits = seen g.H.Source.left g.H.Source.faults c.args.hits.now c.flag_for.new.hits in
    let object = c.in-Some.object in
    let next = rw (c.in-Some.is) at (c.in_ok-object.ensures.next i.fault) in
    let remains = one_follows c.args.reader.format c.args.reader c.loop-flags.reader c.next.new.self c.loop-flags.requests.requests object (last_mark c.next.new.self) _ _ _ c.requires.reader i.goes_on next.1 in
    rw (p.1, p.2) (flag_unread c.args.reader.format trace hits c.loop-flags.requests.requests.objects (bits_of c.loop-flags.flags) c.loop-flags.lines _ object _ c.in_err-flag.field-0.0 remains i.as_many i.flagged i.line i.hits_faults c.in_err-flag.ensures.stopped c.in_err-flag.ensures.count)

pub returns-in_err-flag-clause-trace_source : goal.returns-in_err-flag-clause-trace_source
returns-in_err-flag-clause-trace_source g c = loses_then _ _ _ (c.next.ensures.reads.source.0) (c.loop-flags.invariant.trace_source) (c.next.ensures.reads.source.1)

pub returns-in_err-flag-clause-hits_source : goal.returns-in_err-flag-clause-hits_source
returns-in_err-flag-clause-hits_source g c = loses_then _ _ _ (c.flag_for.ensures.reads.source.0) (c.loop-flags.invariant.hits_source) (c.flag_for.ensures.reads.source.1)

pub returns-in_err-make_room-clause-trace_source : goal.returns-in_err-make_room-clause-trace_source
returns-in_err-make_room-clause-trace_source g c = loses_then _ _ _ (c.next.ensures.reads.source.0) (c.loop-flags.invariant.trace_source) (c.next.ensures.reads.source.1)

pub returns-in_err-make_room-clause-hits_source : goal.returns-in_err-make_room-clause-hits_source
returns-in_err-make_room-clause-hits_source g c = loses_then _ _ _ (c.flag_for.ensures.reads.source.0) (c.loop-flags.invariant.hits_source) (c.flag_for.ensures.reads.source.1)

pub returns-in_err-push_given-clause-trace_source : goal.returns-in_err-push_given-clause-trace_source
returns-in_err-push_given-clause-trace_source g c = loses_then _ _ _ (c.next.ensures.reads.source.0) (c.loop-flags.invariant.trace_source) (c.next.ensures.reads.source.1)

pub returns-in_err-push_given-clause-hits_source : goal.returns-in_err-push_given-clause-hits_source
returns-in_err-push_given-clause-hits_source g c = loses_then _ _ _ (c.flag_for.ensures.reads.source.0) (c.loop-flags.invariant.hits_source) (c.flag_for.ensures.reads.source.1)

pub loop-flags-init : goal.loop-flags-init
loop-flags-init g c =
    let reader = c.args.reader in
    let lines = c.args.lines.now in
    let left = g.H.Source.left c.args.hits.now in
    let empty : c.in_ok-requests.requests.requests ≡ record { objects = []; fills = [] } = ap (λ b. b.requests) c.in_ok-requests.ensures in
    record {
      format = refl;
      kept = ap (λ b. b.marks) c.in_ok-requests.ensures;
      limits = ap (λ r. r.limits) c.requires.reader;
      fault = ap (λ r. r.fault) c.requires.reader;
      given = rw empty (ap (λ r. r.given) c.requires.reader);
      few = rw empty (omega arith);
      goes_on = goes_nowhere reader c.in_ok-requests.requests.requests.objects c.in_ok-requests.requests.requests.fills _ (ap (λ r. r.objects) empty) (ap (λ r. r.fills) empty);
      given_all = nothing_given reader c.in_ok-requests.requests.requests _ empty;
      flags_past = past_nothing lines left c.requires.lines;
      flags_held = omega (arith, ap (λ l. length l.held) c.requires.lines);
      going = (ap (λ l. l.limit) c.requires.lines, ap (λ l. l.fault) c.requires.lines);
      line = rw empty (ap (λ l. l.line) c.requires.lines);
      as_many = rw (c.new-flags.ensures, empty) refl;
      flagged = rw c.new-flags.ensures
          (subst (λ (o : Option (List ℕ)). IfSome left (λ text. HasFlags [] lines text o)) (sym (stands_in-nothing left) ∙ ap (λ l. stands_in l.held left) (sym c.requires.lines)) (no_flags lines left (ap (λ l. l.consumed) c.requires.lines)));
      trace_source = loses_nothing (g.T.Source.left c.args.trace.now);
      hits_source = loses_nothing left;
      trace_faults = refl;
      hits_faults = refl;
    }

pub loop-flags-preserved : goal.loop-flags-preserved
loop-flags-preserved g c =
    let i = c.loop-flags.invariant in
    let n = c.next.ensures in
    let object = c.in-Some.object in
    let flag = c.in_ok-flag.flag in
    let given = c.loop-flags.requests.requests in
    let next = rw (c.in-Some.is) at (c.in_ok-object.ensures.next i.fault) in
    let pushed = c.in_ok-push_given.ensures.ok in
    let bits : bits_of c.push_reserved.new.self ≡ bits_of c.loop-flags.flags ++ flag ∷ [] = c.push_reserved.ensures.bits ∙ ap (λ b. b ++ flag ∷ []) c.make_room.ensures.bits in
    record {
      format = n.format ∙ i.format;
      kept = ap (λ b. b.marks) pushed ∙ i.kept;
      limits = n.few.0 ∙ i.limits;
      fault = c.in_ok-object.ensures.fault i.fault;
      given = rw pushed (omega (arith, next.0, i.given, length-append given.objects (object ∷ [])));
      few = rw pushed (omega (arith, next.0, i.given, n.few.1, ap (λ l. l.requests) (n.few.0 ∙ i.limits), length-append given.objects (object ∷ [])));
      goes_on = rw pushed (loads_more c.args.reader c.loop-flags.reader c.next.new.self given object (last_mark c.next.new.self) _ _ _ i.goes_on next.1);
      given_all = rw pushed (given_more c.args.reader c.loop-flags.reader c.next.new.self given object (last_mark c.next.new.self) _ _ (rests_after given c.args.reader c.loop-flags.reader _ _ i.goes_on) i.given_all (rw (c.in-Some.is) at (c.in_ok-object.ensures.lines i.fault)));
      flags_past = past_then nothing_read c.loop-flags.lines c.flag_for.new.lines _ _ _ i.flags_past c.flag_for.ensures.lines.past;
      flags_held = c.flag_for.ensures.lines.held;
      going = c.in_ok-flag.ensures.line.1;
      line = rw pushed (omega (arith, c.in_ok-flag.ensures.line.0, i.line, length-append given.objects (object ∷ [])));
      as_many = rw (pushed, bits) (omega (arith, i.as_many, length-append given.objects (object ∷ []), length-append (bits_of c.loop-flags.flags) (flag ∷ [])));
      flagged = rw bits (more_flags (bits_of c.loop-flags.flags) flag c.loop-flags.lines c.flag_for.new.lines _ _ _ c.in_ok-flag.ensures.line.0 i.flagged c.in_ok-flag.ensures.given);
      trace_source = loses_then _ _ _ (n.reads.source.0) i.trace_source (n.reads.source.1);
      hits_source = loses_then _ _ _ (c.flag_for.ensures.reads.source.0) i.hits_source (c.flag_for.ensures.reads.source.1);
      trace_faults = c.in_ok-object.ensures.reads.none_failed ∙ i.trace_faults;
      hits_faults = c.in_ok-flag.ensures.reads.none_failed ∙ i.hits_faults;
    }

pub no_more-requires-clause-few : goal.no_more-requires-clause-few
no_more-requires-clause-few g c = omega (arith, c.loop-flags.invariant.few, c.loop-flags.invariant.line)

pub returns-in_err-no_more-clause-unread : goal.returns-in_err-no_more-clause-unread
returns-in_err-no_more-clause-unread g c =
    let i = c.loop-flags.invariant in
    let p = err_from_is_err_and c.from_residual-in_err-no_more.result c.from_residual-in_err-no_more.ensures.1 in
    let trace = seen g.T.Source.left g.T.Source.faults c.args.trace.now c.next.new.source in
    let hits = seen g.H.Source.left g.H.Source.faults c.args.hits.now c.no_more.new.hits in
    let next = rw (c.in_default.is) at (c.in_ok-object.ensures.next i.fault) in
    let remains = none_follows c.args.reader.format c.args.reader c.loop-flags.reader c.loop-flags.requests.requests _ _ c.next.new.self.dropped None c.requires.reader i.goes_on (over_at_end c.loop-flags.reader c.next.new.self _ _ next) in
    rw (p.1, p.2) (more_unread c.args.reader.format trace hits c.loop-flags.requests.requests.objects (bits_of c.loop-flags.flags) c.loop-flags.lines _ _ c.in_err-no_more.field-0.0 remains i.as_many i.flagged i.line i.hits_faults c.in_err-no_more.ensures.stopped c.in_err-no_more.ensures.count)

pub returns-in_err-no_more-clause-trace_source : goal.returns-in_err-no_more-clause-trace_source
returns-in_err-no_more-clause-trace_source g c = loses_then _ _ _ (c.next.ensures.reads.source.0) (c.loop-flags.invariant.trace_source) (c.next.ensures.reads.source.1)

pub returns-in_err-no_more-clause-hits_source : goal.returns-in_err-no_more-clause-hits_source
returns-in_err-no_more-clause-hits_source g c = loses_then _ _ _ (c.no_more.ensures.reads.source.0) (c.loop-flags.invariant.hits_source) (c.no_more.ensures.reads.source.1)

pub returns-clause-read : goal.returns-clause-read
returns-clause-read g c =
    let i = c.loop-flags.invariant in
    let format = c.args.reader.format in
    let given = c.loop-flags.requests.requests in
    let next = rw (c.in_default.is) at (c.in_ok-object.ensures.next i.fault) in
    let whole = loads_all c.args.reader c.loop-flags.reader c.next.new.self given.objects given.fills _ _ _ i.goes_on next in
    let end = loads_to_end c.args.reader c.loop-flags.reader c.next.new.self given.objects given.fills _ _ _ i.goes_on next in
    let flags = all_flags (bits_of c.loop-flags.flags) c.loop-flags.lines _ _ _ i.flagged c.in_ok-no_more.ensures.end in
    rw (c.finish.ensures, c.into_notes.ensures) (record {
      loaded = record {
        read = from_start format c.args.reader (g.T.Source.left c.args.trace.now) (λ r. IsWhole r given c.next.new.self.dropped) c.requires.reader whole;
        noted = from_start format c.args.reader (g.T.Source.left c.args.trace.now) (λ r. r.seen.noted ≡ c.next.new.self.seen.noted) c.requires.reader (noted_at_end c.args.reader c.loop-flags.reader c.next.new.self given c.next.new.self.seen.noted _ _ _ i.goes_on next refl);
        nothing_left = nothing_left (g.T.Source.left c.args.trace.now) (g.T.Source.left c.next.new.source) c.next.new.self.lines.held (from_start format c.args.reader (g.T.Source.left c.args.trace.now) (λ _. stands_in c.next.new.self.lines.held (g.T.Source.left c.next.new.source) ≡ Some []) c.requires.reader end);
      };
      flags_are = record {
        lines = flags.0;
        nothing_left = nothing_left (g.H.Source.left c.args.hits.now) (g.H.Source.left c.no_more.new.hits) c.no_more.new.lines.held flags.1;
      };
      as_many = i.as_many;
    })

pub returns-clause-trace_source : goal.returns-clause-trace_source
returns-clause-trace_source g c = loses_then _ _ _ (c.next.ensures.reads.source.0) (c.loop-flags.invariant.trace_source) (c.next.ensures.reads.source.1)

pub returns-clause-hits_source : goal.returns-clause-hits_source
returns-clause-hits_source g c = loses_then _ _ _ (c.no_more.ensures.reads.source.0) (c.loop-flags.invariant.hits_source) (c.no_more.ensures.reads.source.1)

pub returns-clause-none_failed : goal.returns-clause-none_failed
returns-clause-none_failed g c =
    let i = c.loop-flags.invariant in
    (c.in_ok-object.ensures.reads.none_failed ∙ i.trace_faults, c.in_ok-no_more.ensures.reads.none_failed ∙ i.hits_faults)

pub returns-in_err-object-clause-near : goal.returns-in_err-object-clause-near
returns-in_err-object-clause-near g c =
    let i = c.loop-flags.invariant in
    let p = err_from_is_err_and c.from_residual-in_err-object.result c.from_residual-in_err-object.ensures.1 in
    let trace = seen g.T.Source.left g.T.Source.faults c.args.trace.now c.next.new.source in
    let hits = seen g.H.Source.left g.H.Source.faults c.args.hits.now c.loop-flags.hits in
    let format = c.args.reader.format in
    let given = c.loop-flags.requests.requests in
    let first = c.args.reader in
    let second = c.loop-flags.reader in
    let third = c.next.new.self in
    let stops = c.in_err-object.ensures.no_further i.fault in
    let stands = stands_then (after_all given) first second third _ _ _ (λ s. (refl, refl, refl)) (rests_after given first second _ _ i.goes_on) (through_given given first second _ i.given_all) stops.1 in
    rw (p.1, p.2) (record {
      lines = lost_through format full_limits first third trace c.in_err-object.field-0.0 c.requires.reader c.next.ensures.ahead (stops.0, stands);
      flags = lost_flags format first second given _ trace hits c.loop-flags.lines c.requires.reader i.line i.flags_held i.goes_on i.flags_past;
    })

pub returns-in_err-flag-clause-near : goal.returns-in_err-flag-clause-near
returns-in_err-flag-clause-near g c =
    let i = c.loop-flags.invariant in
    let p = err_from_is_err_and c.from_residual-in_err-flag.result c.from_residual-in_err-flag.ensures.1 in
    let trace = seen g.T.Source.left g.T.Source.faults c.args.trace.now c.next.new.source in
    let hits = seen g.H.Source.left g.H.Source.faults c.args.hits.now c.flag_for.new.hits in
    let format = c.args.reader.format in
    let given = c.loop-flags.requests.requests in
    let object = c.in-Some.object in
    let mark = last_mark c.next.new.self in
    let first = c.args.reader in
    let second = c.loop-flags.reader in
    let third = c.next.new.self in
    let next = rw (c.in-Some.is) at (c.in_ok-object.ensures.next i.fault) in
    let turn = c.loop-flags.lines.line + 1 in
    let count : length (given.objects ++ object ∷ []) ≡ turn = omega (arith, length-append given.objects (object ∷ []), i.line) in
    let has = given_more first second third given object mark _ _ (rests_after given first second _ _ i.goes_on) i.given_all (rw (c.in-Some.is) at (c.in_ok-object.ensures.lines i.fault)) in
    let goes = loads_more first second third given object mark _ _ _ i.goes_on next.1 in
    let lost = lost_given format first third (with_request given object mark) (g.T.Source.left c.args.trace.now) (g.T.Source.left c.next.new.source) c.requires.reader c.next.ensures.ahead has goes in
    let past = past_then nothing_read c.loop-flags.lines c.flag_for.new.lines _ _ _ i.flags_past c.flag_for.ensures.lines.past in
    rw (p.1, p.2) (near_turn format turn trace hits c.in_err-flag.field-0.0 c.in_err-flag.ensures.turn (record {
      requests = subst (λ n. IfSome (g.T.Source.left c.args.trace.now) (λ bytes. IfSome (g.T.Source.left c.next.new.source) (HasLostFor format full_limits n bytes))) count lost;
      flags = lost_lines c.flag_for.new.lines turn hits c.flag_for.ensures.lines.most c.flag_for.ensures.lines.held past;
    }))

pub returns-in_err-no_more-clause-near : goal.returns-in_err-no_more-clause-near
returns-in_err-no_more-clause-near g c =
    let i = c.loop-flags.invariant in
    let p = err_from_is_err_and c.from_residual-in_err-no_more.result c.from_residual-in_err-no_more.ensures.1 in
    let trace = seen g.T.Source.left g.T.Source.faults c.args.trace.now c.next.new.source in
    let hits = seen g.H.Source.left g.H.Source.faults c.args.hits.now c.no_more.new.hits in
    let format = c.args.reader.format in
    let given = c.loop-flags.requests.requests in
    let first = c.args.reader in
    let second = c.loop-flags.reader in
    let third = c.next.new.self in
    let next = rw (c.in_default.is) at (c.in_ok-object.ensures.next i.fault) in
    let turn = c.loop-flags.lines.line + 1 in
    let count : length given.objects + 1 ≡ turn = omega (arith, i.line) in
    let whole = from_start format first (g.T.Source.left c.args.trace.now) (λ r. IsWhole r given third.dropped) c.requires.reader (loads_all first second third given.objects given.fills _ _ _ i.goes_on next) in
    let end = nothing_left (g.T.Source.left c.args.trace.now) (g.T.Source.left c.next.new.source) third.lines.held (from_start format first (g.T.Source.left c.args.trace.now) (λ _. stands_in third.lines.held (g.T.Source.left c.next.new.source) ≡ Some []) c.requires.reader (loads_to_end first second third given.objects given.fills _ _ _ i.goes_on next)) in
    let lost = lost_all format given third.dropped (g.T.Source.left c.args.trace.now) (g.T.Source.left c.next.new.source) whole end in
    let past = past_then nothing_read c.loop-flags.lines c.no_more.new.lines _ _ _ i.flags_past c.no_more.ensures.lines.past in
    rw (p.1, p.2) (near_turn format turn trace hits c.in_err-no_more.field-0.0 c.in_err-no_more.ensures.turn (record {
      requests = subst (λ n. IfSome (g.T.Source.left c.args.trace.now) (λ bytes. IfSome (g.T.Source.left c.next.new.source) (HasLostFor format full_limits n bytes))) count lost;
      flags = lost_lines c.no_more.new.lines turn hits c.no_more.ensures.lines.most c.no_more.ensures.lines.held past;
    }))

pub returns-in_err-object-clause-else_none_failed : goal.returns-in_err-object-clause-else_none_failed
returns-in_err-object-clause-else_none_failed g c =
    let i = c.loop-flags.invariant in
    let p = err_from_is_err_and c.from_residual-in_err-object.result c.from_residual-in_err-object.ensures.1 in
    rw (p.1, p.2) (calm_trace _ _ _ _ c.in_err-object.ensures.reads.else_none_failed i.trace_faults, inr i.hits_faults)

pub returns-in_err-flag-clause-else_none_failed : goal.returns-in_err-flag-clause-else_none_failed
returns-in_err-flag-clause-else_none_failed g c =
    let i = c.loop-flags.invariant in
    let p = err_from_is_err_and c.from_residual-in_err-flag.result c.from_residual-in_err-flag.ensures.1 in
    rw (p.1, p.2) (inr (c.in_ok-object.ensures.reads.none_failed ∙ i.trace_faults), calm_hits _ _ _ _ c.in_err-flag.ensures.reads.else_none_failed i.hits_faults)

pub returns-in_err-make_room-clause-unread : goal.returns-in_err-make_room-clause-unread
returns-in_err-make_room-clause-unread g c = let p = err_from_is_err_and c.from_residual-in_err-make_room.result c.from_residual-in_err-make_room.ensures.1 in rw (p.1, p.2) tt

pub returns-in_err-make_room-clause-near : goal.returns-in_err-make_room-clause-near
returns-in_err-make_room-clause-near g c = let p = err_from_is_err_and c.from_residual-in_err-make_room.result c.from_residual-in_err-make_room.ensures.1 in rw (p.1, p.2) tt

pub returns-in_err-push_given-clause-unread : goal.returns-in_err-push_given-clause-unread
returns-in_err-push_given-clause-unread g c = let p = err_from_is_err_and c.from_residual-in_err-push_given.result c.from_residual-in_err-push_given.ensures.1 in rw (p.1, p.2) tt

pub returns-in_err-push_given-clause-near : goal.returns-in_err-push_given-clause-near
returns-in_err-push_given-clause-near g c = let p = err_from_is_err_and c.from_residual-in_err-push_given.result c.from_residual-in_err-push_given.ensures.1 in rw (p.1, p.2) tt

pub returns-in_err-push_given-clause-else_none_failed : goal.returns-in_err-push_given-clause-else_none_failed
returns-in_err-push_given-clause-else_none_failed g c =
    let i = c.loop-flags.invariant in
    let p = err_from_is_err_and c.from_residual-in_err-push_given.result c.from_residual-in_err-push_given.ensures.1 in
    rw (p.1, p.2) (inr (c.in_ok-object.ensures.reads.none_failed ∙ i.trace_faults), inr (c.in_ok-flag.ensures.reads.none_failed ∙ i.hits_faults))

pub returns-in_err-no_more-clause-else_none_failed : goal.returns-in_err-no_more-clause-else_none_failed
returns-in_err-no_more-clause-else_none_failed g c =
    let i = c.loop-flags.invariant in
    let p = err_from_is_err_and c.from_residual-in_err-no_more.result c.from_residual-in_err-no_more.ensures.1 in
    rw (p.1, p.2) (inr (c.in_ok-object.ensures.reads.none_failed ∙ i.trace_faults), calm_hits _ _ _ _ c.in_err-no_more.ensures.reads.else_none_failed i.hits_faults)
