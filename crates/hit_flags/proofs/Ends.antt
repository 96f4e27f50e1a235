-- How the turns end, from what each of the two has still to give.
use Rattle.std.proofs.Common.{◌≡◌, ℕ, ◌+◌, ◌∙◌, refl, sym, ap, subst, Bool, List, [], ◌∷◌, ◌++◌, length, length-append, map, min, append_assoc, append-nil, arith, Option, Some, None, IfSome}
use Rattle.std.proofs.lemmas.List.{length-map}
use Rattle.bound_io.specs.Devices.{Device}
use Rattle.bound_io.specs.Lines.{stands_in}
use Rattle.bound_io.specs.Positions.{Position}
use Rattle.cache_model.specs.declared.objects.Object.{Object}
use Rattle.cache_rules.specs.Stored.{Requests}
use Rattle.freshness.specs.Seen.{Staleness}
use Rattle.trace_any.specs.declared.fault.TraceFault.{TraceFault}
use Rattle.trace_any.specs.declared.fault.TraceFault.TheVariants as of_trace
use Rattle.trace_any.specs.declared.format.Format.{Format}
use Rattle.trace_any.specs.Readings.{Reading, full_limits, reading}
use Rattle.trace_any.specs.Readers.{Reader, GivesNone, GoesOn, IsOver, IsStopped, bytes_after, fresh, onto, to_come, known as trace_known}
use Rattle.trace_any.specs.Loads.{IsRefused}
use Rattle.trace_any.proofs.Coming.{after_all}
use Rattle.trace_any.proofs.Loads.{from_start}
use Rattle.hit_flags.specs.declared.fault.FlagFault.{FlagFault}
use Rattle.hit_flags.specs.declared.fault.FlagFault.TheVariants.{Trace, NotFlag, Count, ReadFault, NoMemory}
use Rattle.hit_flags.specs.Claims.{AreUnread, IsStop, StopsBoth}
use Rattle.hit_flags.specs.Flags.{by_turns, first_without, flags_in, stop_of}
use Rattle.hit_flags.specs.Lines.{AreShort, Gives, IsCount, StopsSo}
use Rattle.hit_flags.proofs.Alone.{first_without-after, turns_counted, turns_without}

-- after as many requests as flags the turns go on with the rest of both
by_turns-after : (given rest : List Object) (refused : Option TraceFault) (flags : List Bool) (more : List (Option Bool)) (both : ℕ) → length flags ≡ length given
    → by_turns (given ++ rest) refused (map (λ flag. Some flag) flags ++ more) both ≡ by_turns rest refused more (both + length given)
by_turns-after [] rest refused [] more both same = ap (by_turns rest refused more) (omega arith)
by_turns-after [] rest refused (flag ∷ flags) more both same = absurd (omega (arith, same))
by_turns-after (x ∷ given) rest refused [] more both same = absurd (omega (arith, same))
by_turns-after (x ∷ given) rest refused (flag ∷ flags) more both same =
    by_turns-after given rest refused flags more (both + 1) (omega (arith, same)) ∙ ap (by_turns rest refused more) (omega arith)

-- the flags so far, of lines that were short, and those in the bytes that are left
pub record HasFlags (flags : List Bool) (at : Position) (bytes : List ℕ) (after : Option (List ℕ)) : Type 0 where
  pub rest : List ℕ
  pub after_is : after ≡ Some rest
  pub flags_are : flags_in bytes ≡ map (λ flag. Some flag) flags ++ flags_in rest
  pub short : AreShort at

-- a reader of lines without held bytes stands in what its source has left
pub stands_in-nothing : (left : Option (List ℕ)) → stands_in [] left ≡ left
stands_in-nothing None = refl
stands_in-nothing (Some bytes) = refl

-- before the first flag
pub no_flags : (at : Position) (before : Option (List ℕ)) → at.consumed ≡ 0 → IfSome before (λ bytes. HasFlags [] at bytes before)
no_flags at None none = tt
no_flags at (Some bytes) none = record { rest = bytes; after_is = refl; flags_are = refl; short = omega (arith, none) }

-- one flag more
pub more_flags : (flags : List Bool) (flag : Bool) (old new : Position) (start before after : Option (List ℕ)) → new.line ≡ old.line + 1 → IfSome start (λ bytes. HasFlags flags old bytes before) → IfSome before (λ bytes. Gives flag old new bytes after)
    → IfSome start (λ bytes. HasFlags (flags ++ flag ∷ []) new bytes after)
more_flags flags flag old new None before after line has gives = tt
more_flags flags flag old new (Some bytes) before after line has gives =
    let next = rw (has.after_is) at gives in
    record {
      rest = next.rest;
      after_is = next.after_is;
      flags_are = has.flags_are ∙ (ap (λ more. map (λ f. Some f) flags ++ more) next.flags ∙ (sym (append_assoc (map (λ f. Some f) flags) (Some flag ∷ []) (flags_in next.rest)) ∙ ap (λ f. f ++ flags_in next.rest) (sym (map-append flags flag))));
      short = omega (arith, has.short, next.short, line);
    }
  where
    map-append : (fs : List Bool) (f : Bool) → map (λ b. Some b) (fs ++ f ∷ []) ≡ map (λ b. Some b) fs ++ Some f ∷ []
    map-append [] f = refl
    map-append (b ∷ fs) f = ap (λ rest. Some b ∷ rest) (map-append fs f)

-- what stops the two readings, from what stops them after the turns so far
stop_of-after : (r : Reading) (given rest : List Object) (refused : Option TraceFault) (flags : List Bool) (lines more : List (Option Bool)) (fault : FlagFault) → r.requests ≡ given ++ rest → r.refused ≡ refused
    → lines ≡ map (λ flag. Some flag) flags ++ more → length flags ≡ length given → by_turns rest refused more (length given) ≡ Some fault → stop_of r lines ≡ Some fault
stop_of-after r given rest refused flags lines more fault requests stop lines_are same stops =
    ap (λ xs. by_turns xs r.refused lines 0) requests ∙ (ap (λ f. by_turns (given ++ rest) f lines 0) stop ∙ (ap (λ l. by_turns (given ++ rest) refused l 0) lines_are
    ∙ (by_turns-after given rest refused flags more 0 same ∙ (ap (by_turns rest refused more) (omega arith) ∙ stops))))

-- the requests that were given, those that follow, and why the reading stops, if it does, of which this holds
pub record Remains (r : Reading) (given : List Object) (P : List Object → Option TraceFault → Type 0) : Type 0 where
  pub rest : List Object
  pub refused : Option TraceFault
  pub requests : r.requests ≡ given ++ rest
  pub stop : r.refused ≡ refused
  pub is : P rest refused

-- no request follows, and the reading stops so
abbrev pub NoneFollows : Option TraceFault → List Object → Option TraceFault → Type 0
NoneFollows why rest refused = (rest ≡ []) × (refused ≡ why)

-- a request follows
abbrev pub OneFollows : Object → List Object → Option TraceFault → Type 0
OneFollows x rest refused = (more : List Object) × (rest ≡ x ∷ more)

-- what stops the turns stops the two readings, if the bytes of both are known
pub stops_both : (format : Format) (trace hits : Device) (given : List Object) (flags : List Bool) (at : Position) (between : Option (List ℕ)) (fault : FlagFault) (P : List Object → Option TraceFault → Type 0)
    → IfSome trace.before (λ bytes. Remains (reading format full_limits bytes) given P) → length flags ≡ length given → IfSome hits.before (λ text. HasFlags flags at text between)
    → ((rest : List Object) (refused : Option TraceFault) → P rest refused → AreShort at → IfSome between (λ text. by_turns rest refused (flags_in text) (length given) ≡ Some fault))
    → StopsBoth format trace hits fault
stops_both format trace hits given flags at between fault P remains same flagged stops = by trace.before hits.before remains flagged
  where
    by : (before left : Option (List ℕ)) → IfSome before (λ bytes. Remains (reading format full_limits bytes) given P) → IfSome left (λ text. HasFlags flags at text between)
        → IfSome before (λ bytes. IfSome left (λ text. stop_of (reading format full_limits bytes) (flags_in text) ≡ Some fault))
    by None left r f = tt
    by (Some bytes) None r f = tt
    by (Some bytes) (Some text) r f =
        stop_of-after (reading format full_limits bytes) given r.rest r.refused flags (flags_in text) (flags_in f.rest) fault r.requests r.stop f.flags_are same
        (subst (λ o. IfSome o (λ text. by_turns r.rest r.refused (flags_in text) (length given) ≡ Some fault)) f.after_is (stops r.rest r.refused r.is f.short))

-- what the trace alone is refused for
refused_alone : (format : Format) (trace : Device) (given : List Object) (fault : TraceFault) → IfSome trace.before (λ bytes. Remains (reading format full_limits bytes) given (NoneFollows (Some fault))) → IsRefused format trace fault
refused_alone format trace given fault remains = by trace.before remains
  where
    by : (before : Option (List ℕ)) → IfSome before (λ bytes. Remains (reading format full_limits bytes) given (NoneFollows (Some fault))) → IfSome before (λ bytes. (reading format full_limits bytes).refused ≡ Some fault)
    by None r = tt
    by (Some bytes) r = r.stop ∙ r.is.1

-- what the lines that are left are stopped for
stop_in : (flags : List Bool) (at : Position) (text : List ℕ) (between : Option (List ℕ)) (rest : List Object) (refused : Option TraceFault) (both : ℕ) (fault : FlagFault) (f : HasFlags flags at text between)
    → (AreShort at → IfSome between (λ bytes. by_turns rest refused (flags_in bytes) both ≡ Some fault)) → by_turns rest refused (flags_in f.rest) both ≡ Some fault
stop_in flags at text between rest refused both fault f stops = subst (λ (o : Option (List ℕ)). IfSome o (λ bytes. by_turns rest refused (flags_in bytes) both ≡ Some fault)) f.after_is (stops f.short)

-- the first line that has no flag, as the flags alone tell
line_alone : (flags : List Bool) (at : Position) (left between : Option (List ℕ)) (rest : List Object) (refused : Option TraceFault) (both line : ℕ) → length flags ≡ both → IfSome left (λ text. HasFlags flags at text between)
    → (AreShort at → IfSome between (λ bytes. by_turns rest refused (flags_in bytes) both ≡ Some (NotFlag line))) → IfSome left (λ text. first_without (flags_in text) 1 ≡ Some line)
line_alone flags at None between rest refused both line same flagged stops = tt
line_alone flags at (Some text) between rest refused both line same flagged stops =
    let next : 1 + length flags ≡ both + 1 = omega (arith, same) in
    ap (λ lines. first_without lines 1) flagged.flags_are
    ∙ (first_without-after flags (flags_in flagged.rest) 1
    ∙ (ap (first_without (flags_in flagged.rest)) next ∙ turns_without rest refused (flags_in flagged.rest) both line (stop_in flags at text between rest refused both (NotFlag line) flagged stops)))

-- how many flags there are, as they alone tell
count_alone : (flags : List Bool) (at : Position) (left between : Option (List ℕ)) (rest : List Object) (refused : Option TraceFault) (both claimed requests : ℕ) → length flags ≡ both → IfSome left (λ text. HasFlags flags at text between)
    → (AreShort at → IfSome between (λ bytes. by_turns rest refused (flags_in bytes) both ≡ Some (Count claimed requests))) → IfSome left (λ text. min (length (flags_in text)) (requests + 1) ≡ claimed)
count_alone flags at None between rest refused both claimed requests same flagged stops = tt
count_alone flags at (Some text) between rest refused both claimed requests same flagged stops =
    let given = map (λ (flag : Bool). Some flag) flags in
    let size : length (flags_in text) ≡ length given + length (flags_in flagged.rest) = ap length flagged.flags_are ∙ length-append given (flags_in flagged.rest) in
    let had : length given ≡ length flags = length-map flags (λ (flag : Bool). Some flag) in
    let counted = turns_counted rest refused (flags_in flagged.rest) both claimed requests (stop_in flags at text between rest refused both (Count claimed requests) flagged stops) in
    omega (arith, size, had, same, counted)

-- what is to come of a reader that has given these
remains_from : (format : Format) (start now : Reader) (given : Requests) (left between : Option (List ℕ)) (P : List Object → Option TraceFault → Type 0) → start ≡ fresh format full_limits
    → IfSome (trace_known start left) (λ bytes. GoesOn (after_all given) start now bytes between) → IfSome between (λ bytes. P (to_come now bytes).requests (to_come now bytes).refused)
    → IfSome left (λ bytes. Remains (reading format full_limits bytes) given.objects P)
remains_from format start now given left between P new goes_on comes = from_start format start left (λ r. Remains r given.objects P) new (by (trace_known start left) goes_on)
  where
    by : (before : Option (List ℕ)) → IfSome before (λ bytes. GoesOn (after_all given) start now bytes between) → IfSome before (λ bytes. Remains (to_come start bytes) given.objects P)
    by None goes = tt
    by (Some bytes) goes = record {
      rest = (to_come now (bytes_after start now bytes)).requests;
      refused = (to_come now (bytes_after start now bytes)).refused;
      requests = ap (λ r. r.requests) goes.coming;
      stop = ap (λ r. r.refused) goes.coming;
      is = subst (λ o. IfSome o (λ rest. P (to_come now rest).requests (to_come now rest).refused)) goes.rest comes;
    }

-- no request is left, whatever the reason
pub none_follows : (format : Format) (start now : Reader) (given : Requests) (left between : Option (List ℕ)) (dropped : ℕ) (why : Option TraceFault) → start ≡ fresh format full_limits
    → IfSome (trace_known start left) (λ bytes. GoesOn (after_all given) start now bytes between) → IfSome between (λ bytes. IsOver (to_come now bytes) dropped why)
    → IfSome left (λ bytes. Remains (reading format full_limits bytes) given.objects (NoneFollows why))
none_follows format start now given left between dropped why new goes_on over = remains_from format start now given left between (NoneFollows why) new goes_on (by between over)
  where
    by : (bytes : Option (List ℕ)) → IfSome bytes (λ b. IsOver (to_come now b) dropped why) → IfSome bytes (λ b. NoneFollows why (to_come now b).requests (to_come now b).refused)
    by None o = tt
    by (Some b) o = (o.requests, o.stop)

-- the next request was given
pub one_follows : (format : Format) (start now next : Reader) (given : Requests) (x : Object) (mark : Option Bool) (left between later : Option (List ℕ)) → start ≡ fresh format full_limits
    → IfSome (trace_known start left) (λ bytes. GoesOn (after_all given) start now bytes between) → IfSome between (λ bytes. GoesOn (onto x mark) now next bytes later)
    → IfSome left (λ bytes. Remains (reading format full_limits bytes) given.objects (OneFollows x))
one_follows format start now next given x mark left between later new goes_on gives = remains_from format start now given left between (OneFollows x) new goes_on (by between gives)
  where
    by : (bytes : Option (List ℕ)) → IfSome bytes (λ b. GoesOn (onto x mark) now next b later) → IfSome bytes (λ b. OneFollows x (to_come now b).requests (to_come now b).refused)
    by None g = tt
    by (Some b) g = ((to_come next (bytes_after now next b)).requests, ap (λ r. r.requests) g.coming)

-- the trace is refused, or a read of it fails
pub trace_unread : (format : Format) (trace hits : Device) (start now later : Reader) (given : Requests) (flags : List Bool) (at : Position) (between left : Option (List ℕ)) (fault : TraceFault) → start ≡ fresh format full_limits
    → IfSome (trace_known start trace.before) (λ bytes. GoesOn (after_all given) start now bytes between) → length flags ≡ length given.objects → IfSome hits.before (λ text. HasFlags flags at text left)
    → IsStopped now later between trace.faults_before trace.faults_after fault → AreUnread format trace hits (Trace fault)
trace_unread format trace hits start now later given flags at between left fault new goes_on same flagged why = by fault why
  where
    stops : (fault : TraceFault) → IfSome between (λ bytes. IsOver (to_come now bytes) later.dropped (Some fault)) → IsStop format trace hits (Trace fault)
    stops fault over =
        let none = none_follows format start now given trace.before between later.dropped (Some fault) new goes_on over in
        record {
          both = stops_both format trace hits given.objects flags at left (Trace fault) (NoneFollows (Some fault)) none same flagged (λ rest refused stop short. rw (stop.0, stop.1) (all left));
          alone = refused_alone format trace given.objects fault none;
        }
      where
        all : (l : Option (List ℕ)) → IfSome l (λ text. by_turns [] (Some fault) (flags_in text) (length given.objects) ≡ Some (Trace fault))
        all None = tt
        all (Some text) = refl

    by : (fault : TraceFault) → IsStopped now later between trace.faults_before trace.faults_after fault → AreUnread format trace hits (Trace fault)
    by (of_trace.BadLine line kind) over = stops (of_trace.BadLine line kind) over
    by of_trace.ReadFault failed = failed
    by of_trace.InputTooLong over = stops of_trace.InputTooLong over
    by of_trace.TooManyRequests over = stops of_trace.TooManyRequests over
    by of_trace.NoMemory free = tt

-- some requests may follow
pub record Follows (P : List Object → Option TraceFault → Type 0) : Type 0 where
  pub rest : List Object
  pub refused : Option TraceFault
  pub is : P rest refused

-- how many requests there are, as the trace alone tells
abbrev pub AsksSo : Format → Device → FlagFault → Type 0
AsksSo format trace (Count flags requests) = IfSome trace.before (λ bytes. min (length (reading format full_limits bytes).requests) (flags + 1) ≡ requests)
AsksSo format trace other = Unit {0}

asks_one : (format : Format) (trace : Device) (given : List Object) (x : Object) (line : ℕ) (fault : FlagFault) → IfSome trace.before (λ bytes. Remains (reading format full_limits bytes) given (OneFollows x)) → line ≡ length given → IsCount line (line + 1) fault → AsksSo format trace fault
asks_one format trace given x line (Count flags requests) remains same counts = by trace.before remains
  where
    by : (before : Option (List ℕ)) → IfSome before (λ bytes. Remains (reading format full_limits bytes) given (OneFollows x)) → IfSome before (λ bytes. min (length (reading format full_limits bytes).requests) (flags + 1) ≡ requests)
    by None r = tt
    by (Some bytes) r =
        let all : length (reading format full_limits bytes).requests ≡ length given + length r.rest = ap length r.requests ∙ length-append given r.rest in
        omega (arith, all, ap length r.is.1, same, counts.0, counts.1)
asks_one format trace given x line (Trace fault) remains same counts = tt
asks_one format trace given x line (NotFlag bad) remains same counts = tt
asks_one format trace given x line ReadFault remains same counts = tt
asks_one format trace given x line NoMemory remains same counts = tt

asks_none : (format : Format) (trace : Device) (given : List Object) (line : ℕ) (fault : FlagFault) → IfSome trace.before (λ bytes. Remains (reading format full_limits bytes) given (NoneFollows None)) → line ≡ length given → IsCount (line + 1) line fault → AsksSo format trace fault
asks_none format trace given line (Count flags requests) remains same counts = by trace.before remains
  where
    by : (before : Option (List ℕ)) → IfSome before (λ bytes. Remains (reading format full_limits bytes) given (NoneFollows None)) → IfSome before (λ bytes. min (length (reading format full_limits bytes).requests) (flags + 1) ≡ requests)
    by None r = tt
    by (Some bytes) r =
        let all : length (reading format full_limits bytes).requests ≡ length given + length r.rest = ap length r.requests ∙ length-append given r.rest in
        omega (arith, all, ap length r.is.0, same, counts.0, counts.1)
asks_none format trace given line (Trace fault) remains same counts = tt
asks_none format trace given line (NotFlag bad) remains same counts = tt
asks_none format trace given line ReadFault remains same counts = tt
asks_none format trace given line NoMemory remains same counts = tt

-- the flags stop the turns, or a read of them fails
pub flags_unread : (format : Format) (trace hits : Device) (given : List Object) (flags : List Bool) (at : Position) (between : Option (List ℕ)) (fault : FlagFault) (P : List Object → Option TraceFault → Type 0)
    → IfSome trace.before (λ bytes. Remains (reading format full_limits bytes) given P) → length flags ≡ length given → IfSome hits.before (λ text. HasFlags flags at text between)
    → ((rest : List Object) (refused : Option TraceFault) → P rest refused → StopsSo (λ lines. by_turns rest refused lines (length given)) at between hits.faults_before hits.faults_after fault)
    → Follows P → AsksSo format trace fault → AreUnread format trace hits fault
flags_unread format trace hits given flags at between (Trace fault) P remains same flagged stops some asks = absurd (stops some.rest some.refused some.is)
flags_unread format trace hits given flags at between (NotFlag line) P remains same flagged stops some asks = record {
  both = stops_both format trace hits given flags at between (NotFlag line) P remains same flagged stops;
  alone = line_alone flags at hits.before between some.rest some.refused (length given) line same flagged (stops some.rest some.refused some.is);
}
flags_unread format trace hits given flags at between (Count claimed requests) P remains same flagged stops some asks = record {
  both = stops_both format trace hits given flags at between (Count claimed requests) P remains same flagged stops;
  alone = (count_alone flags at hits.before between some.rest some.refused (length given) claimed requests same flagged (stops some.rest some.refused some.is), asks);
}
flags_unread format trace hits given flags at between ReadFault P remains same flagged stops some asks = stops some.rest some.refused some.is
flags_unread format trace hits given flags at between NoMemory P remains same flagged stops some asks = absurd (stops some.rest some.refused some.is)

-- both have ended
pub all_flags : (flags : List Bool) (at : Position) (start between later : Option (List ℕ)) → IfSome start (λ text. HasFlags flags at text between) → IfSome between (λ text. (text ≡ []) × (later ≡ Some []))
    → IfSome start (λ text. flags_in text ≡ map (λ flag. Some flag) flags) × IfSome start (λ _. later ≡ Some [])
all_flags flags at None between later flagged end = (tt, tt)
all_flags flags at (Some text) between later flagged end =
    let none = subst (λ o. IfSome o (λ t. (t ≡ []) × (later ≡ Some []))) flagged.after_is end in
    (flagged.flags_are ∙ (ap (λ t. map (λ flag. Some flag) flags ++ flags_in t) none.0 ∙ append-nil (map (λ flag. Some flag) flags)), none.1)

-- the flag of the next request stops the turns
pub flag_unread : (format : Format) (trace hits : Device) (given : List Object) (flags : List Bool) (at : Position) (between : Option (List ℕ)) (x : Object) (faults_between : ℕ) (fault : FlagFault)
    → IfSome trace.before (λ bytes. Remains (reading format full_limits bytes) given (OneFollows x)) → length flags ≡ length given → IfSome hits.before (λ text. HasFlags flags at text between)
    → at.line ≡ length given → faults_between ≡ hits.faults_before
    → ((y : Object) (requests : List Object) (refused : Option TraceFault) → StopsSo (λ lines. by_turns (y ∷ requests) refused lines at.line) at between faults_between hits.faults_after fault)
    → IsCount at.line (at.line + 1) fault → AreUnread format trace hits fault
flag_unread format trace hits given flags at between x faults_between fault remains same flagged line faults stopped counts =
    flags_unread format trace hits given flags at between fault (OneFollows x) remains same flagged
    (λ rest refused one. subst (λ (r : List Object). StopsSo (λ lines. by_turns r refused lines (length given)) at between hits.faults_before hits.faults_after fault) (sym one.1)
    (subst (λ n. StopsSo (λ lines. by_turns (x ∷ one.0) refused lines n) at between hits.faults_before hits.faults_after fault) line
    (subst (λ f. StopsSo (λ lines. by_turns (x ∷ one.0) refused lines at.line) at between f hits.faults_after fault) faults (stopped x one.0 refused))))
    (record { rest = x ∷ []; refused = None; is = ([], refl) })
    (asks_one format trace given x at.line fault remains line counts)

-- a line after the flags of all requests stops the turns
pub more_unread : (format : Format) (trace hits : Device) (given : List Object) (flags : List Bool) (at : Position) (between : Option (List ℕ)) (faults_between : ℕ) (fault : FlagFault)
    → IfSome trace.before (λ bytes. Remains (reading format full_limits bytes) given (NoneFollows None)) → length flags ≡ length given → IfSome hits.before (λ text. HasFlags flags at text between)
    → at.line ≡ length given → faults_between ≡ hits.faults_before
    → StopsSo (λ lines. by_turns [] None lines at.line) at between faults_between hits.faults_after fault → IsCount (at.line + 1) at.line fault → AreUnread format trace hits fault
more_unread format trace hits given flags at between faults_between fault remains same flagged line faults stopped counts =
    flags_unread format trace hits given flags at between fault (NoneFollows None) remains same flagged
    (λ rest refused none. subst (λ (r : List Object). StopsSo (λ lines. by_turns r refused lines (length given)) at between hits.faults_before hits.faults_after fault) (sym none.0)
    (subst (λ (f : Option TraceFault). StopsSo (λ lines. by_turns [] f lines (length given)) at between hits.faults_before hits.faults_after fault) (sym none.1)
    (subst (λ n. StopsSo (λ lines. by_turns [] None lines n) at between hits.faults_before hits.faults_after fault) line
    (subst (λ f. StopsSo (λ lines. by_turns [] None lines at.line) at between f hits.faults_after fault) faults stopped))))
    (record { rest = []; refused = None; is = (refl, refl) })
    (asks_none format trace given at.line fault remains line counts)

-- no request is left to come at the end
pub over_at_end : (now later : Reader) (between after : Option (List ℕ)) → IfSome between (λ bytes. GivesNone now later bytes after) → IfSome between (λ bytes. IsOver (to_come now bytes) later.dropped None)
over_at_end now later None after none = tt
over_at_end now later (Some bytes) after none = none.0

-- once no request is left, what the reader has noted is what the reading notes
pub noted_at_end : (first second third : Reader) (given : Requests) (noted : Staleness) (before between later : Option (List ℕ)) → IfSome before (λ bytes. GoesOn (after_all given) first second bytes between)
    → IfSome between (λ bytes. GivesNone second third bytes later) → noted ≡ third.seen.noted → IfSome before (λ bytes. (to_come first bytes).seen.noted ≡ noted)
noted_at_end first second third given noted None between later goes_on none has = tt
noted_at_end first second third given noted (Some bytes) between later goes_on none has =
    let over = rw (goes_on.rest) at none in ap (λ r. r.seen.noted) goes_on.coming ∙ (ap (λ s. s.noted) over.3 ∙ sym has)
