-- What possible flags are worth, and what stops a reading that is whole.
use Rattle.std.proofs.Common.{◌≡◌, ◌∙◌, ℕ, ◌+◌, ◌/◌, ◌≤◌, sym, ap, subst, refl, arith, Bool, false, List, [], ◌∷◌, length, map, Option, Some, None, IfSome}
use Rattle.std.specs.Option.{is_some, unwrap_or}
use Rattle.std.specs.Prelude.{IsSome}
use Rattle.std.proofs.Math.Nat.{mul-div-le, mul-le-mul_left}
use Rattle.std.proofs.lemmas.Bool.{false≢true}
use Rattle.bound_io.specs.Devices.{Device, HasFailed}
use Rattle.cache_model.specs.declared.objects.Object.{Object}
use Rattle.cache_model.specs.declared.objects.Objective.{Objective}
use Rattle.cache_model.specs.declared.objects.Objective.TheVariants.{Object as Hits, Bytes}
use Rattle.cache_model.specs.Claim.{terms_from}
use Rattle.cache_rules.specs.Stored.{Requests}
use Rattle.freshness.specs.Seen.{Staleness}
use Rattle.judge_laws.specs.Flags.{IsPossible, claimed}
use Rattle.hit_judge.specs.Possible.{IsPossibleFresh}
use Rattle.judge_laws.proofs.Claimed.{claimed_is_bounded}
use Rattle.trace_any.specs.declared.fault.TraceFault.TheVariants as of_trace
use Rattle.trace_any.specs.declared.format.Format.{Format}
use Rattle.trace_any.specs.Readers.{Notes}
use Rattle.trace_any.specs.Readings.{full_limits, reading}
use Rattle.hit_flags.specs.declared.fault.FlagFault.{FlagFault}
use Rattle.hit_flags.specs.declared.fault.FlagFault.TheVariants as flag
use Rattle.hit_flags.specs.Claims.{AreRead, IsStop}
use Rattle.hit_flags.specs.Flags.{by_turns, flags_in, stop_of}
use Rattle.bound_report.specs.declared.refusal.LimitName.TheVariants.{Requests as MostRequests, TraceBytes, PassRequests, PassBytes, PassObjects, Denominator}
use Rattle.bound_words.specs.declared.plans.JudgeSettings.{JudgeSettings}
use Rattle.bound_run.specs.declared.status.Status.{Status}
use Rattle.bound_run.specs.declared.status.Status.TheVariants.{Done, Invalid, Words, BadLine, Limit, TraceFault, CertFault, ReportFault, MadeFault, NoMemory, PolicyMemory, Unequal, NotFlag, FlagCount, Impossible}
use Rattle.bound_run.specs.Judgements.{ArePossible, IsJudged, claimed_by}
use Rattle.bound_run.specs.Refusals.{RefusesJudge}
use Rattle.bound_run.specs.Replays.{IsWithinBounds, earned_by}
use Rattle.bound_run.specs.Run.{AnswersJudge, JudgeEnds}
use Rattle.bound_run.specs.Statuses.{ending_of, refusal_of_flags}
use Rattle.hit_flags.specs.Claims.{AreUnread}
use Rattle.hit_flags.specs.Nearness.{AreNear}

-- what is earned is the claim by the objective
earned : (o : Objective) (asked : JudgeSettings) (trace : Requests) (flags : List Bool) → earned_by o (claimed_by Hits asked trace flags) (claimed_by Bytes asked trace flags) ≡ claimed_by o asked trace flags
earned Hits asked trace flags = refl
earned Bytes asked trace flags = refl

-- no valid certificate of the capacity and no longer warm-up is below the claim of possible flags
pub claims_bounded : (asked : JudgeSettings) (trace : Requests) (flags : List Bool) → IsPossible asked.capacity trace.objects flags
    → IsWithinBounds asked.capacity asked.warmup trace (claimed_by Hits asked trace flags) (claimed_by Bytes asked trace flags)
claims_bounded asked trace flags possible = λ h records valid same shorter.
    let possible_there : IsPossible h.capacity trace.objects flags = subst (λ c. IsPossible c trace.objects flags) (sym same) possible in
    let floor : claimed (terms_from h.objective h.capacity asked.warmup trace.fills) trace.objects flags ≤ h.upper / h.denominator = claimed_is_bounded trace.objects trace.fills h records flags asked.warmup valid possible_there shorter in
    let here : claimed_by h.objective asked trace flags ≤ h.upper / h.denominator = subst (λ c. claimed (terms_from h.objective c asked.warmup trace.fills) trace.objects flags ≤ h.upper / h.denominator) same floor in
    let all = subst (λ n. n ≤ h.upper / h.denominator) (sym (earned h.objective asked trace flags)) here in
    record { upper = omega (arith, mul-le-mul_left h.denominator all, mul-div-le h.upper h.denominator); floor = all }

-- a trace with a flag for each of its requests is read to the end of both
none_stops : (requests : List Object) (flags : List Bool) (both : ℕ) → length flags ≡ length requests → by_turns requests None (map (λ flag. Some flag) flags) both ≡ None
none_stops [] [] both same = refl
none_stops [] (f ∷ flags) both same = absurd (omega (arith, same))
none_stops (x ∷ requests) [] both same = absurd (omega (arith, same))
none_stops (x ∷ requests) (f ∷ flags) both same = none_stops requests flags (both + 1) (omega (arith, same))

-- what stops the reading of both can't be possible hits
not_stopped : (format : Format) (asked : JudgeSettings) (bytes text : List ℕ) (fault : FlagFault) → stop_of (reading format full_limits bytes) (flags_in text) ≡ Some fault → ArePossible format asked bytes text → ⊥
not_stopped format asked bytes text fault stops are =
    let r = reading format full_limits bytes in
    false≢true (ap is_some (sym (ap (λ l. by_turns r.requests r.refused l 0) are.lines ∙ (ap (λ w. by_turns r.requests w (map (λ flag. Some flag) are.flags) 0) are.whole ∙ none_stops r.requests are.flags 0 are.as_many)) ∙ stops))

-- flags of the same lines are the same
same_flags : (fs gs : List Bool) → map (λ flag. Some flag) fs ≡ map (λ flag. Some flag) gs → fs ≡ gs
same_flags fs gs same = sym (back fs) ∙ (ap (map (λ (o : Option Bool). unwrap_or o false)) same ∙ back gs)
  where
    back : (fs : List Bool) → map (λ (o : Option Bool). unwrap_or o false) (map (λ flag. Some flag) fs) ≡ fs
    back [] = refl
    back (f ∷ fs) = ap (λ rest. f ∷ rest) (back fs)

-- the flags of a judged text are those of its lines
judged_at : (format : Format) (asked : JudgeSettings) (source hits : Device) (text : List ℕ) (before left : Option (List ℕ)) → source.before ≡ before → hits.before ≡ left → IsSome before → IsSome left → IsJudged format asked source hits text → AnswersJudge format asked before left Done
judged_at format asked source hits text None left is_trace is_hits known known_hits judged = absurd (false≢true known)
judged_at format asked source hits text (Some bytes) None is_trace is_hits known known_hits judged = absurd (false≢true known_hits)
judged_at format asked source hits text (Some bytes) (Some lines) is_trace is_hits known known_hits judged =
    let whole = rw is_trace at judged.read.loaded.read in
    let noted = rw is_trace at judged.read.loaded.noted in
    let flags = rw is_hits at judged.read.flags_are.lines in
    record {
      flags = judged.flags;
      whole = whole.stop;
      lines = flags;
      as_many = judged.read.as_many ∙ ap length (sym whole.requests);
      possible = subst (λ xs. IsPossibleFresh asked.capacity xs (reading format full_limits bytes).seen.noted.stale judged.flags) (sym whole.requests)
          (subst (λ (n : Staleness). IsPossibleFresh asked.capacity judged.requests.objects n.stale judged.flags) (sym noted) judged.possible);
    }

impossible_at : (format : Format) (asked : JudgeSettings) (source hits : Device) (requests : Requests) (notes : Notes) (flags : List Bool) (bytes text : List ℕ) → source.before ≡ Some bytes → hits.before ≡ Some text
    → AreRead format source hits requests notes flags → ¬ (IsPossibleFresh asked.capacity requests.objects notes.noted.stale flags) → ArePossible format asked bytes text → ⊥
impossible_at format asked source hits requests notes flags bytes text is_trace is_hits read impossible are =
    let whole = rw is_trace at read.loaded.read in
    let noted = rw is_trace at read.loaded.noted in
    let lines = rw is_hits at read.flags_are.lines in
    let r = reading format full_limits bytes in
    impossible (subst (λ xs. IsPossibleFresh asked.capacity xs notes.noted.stale flags) whole.requests
    (subst (λ (n : Staleness). IsPossibleFresh asked.capacity r.requests n.stale flags) noted
    (subst (λ fs. IsPossibleFresh asked.capacity r.requests r.seen.noted.stale fs) (same_flags are.flags flags (sym are.lines ∙ lines)) are.possible)))

module _ (format : Format) (asked : JudgeSettings) (source hits report : Device) (known_trace : IsSome source.before) (known_hits : IsSome hits.before)
    (source_works : ¬ (HasFailed source)) (hits_work : ¬ (HasFailed hits)) (report_works : ¬ (HasFailed report)) where
  -- an answer of inputs that are no possible hits
  no_answer : (status : Status) (before left : Option (List ℕ)) → IsSome before → IsSome left
      → ((bytes text : List ℕ) → (ArePossible format asked bytes text → ⊥) → AnswersJudge format asked (Some bytes) (Some text) status)
      → ((bytes text : List ℕ) → before ≡ Some bytes → left ≡ Some text → ArePossible format asked bytes text → ⊥) → AnswersJudge format asked before left status
  no_answer status None left known known_left says never = absurd (false≢true known)
  no_answer status (Some bytes) None known known_left says never = absurd (false≢true known_left)
  no_answer status (Some bytes) (Some text) known known_left says never = says bytes text (never bytes text refl refl)

  -- what stops the reading is no answer of possible hits
  stopped_at : (fault : FlagFault) → IsStop format source hits fault → (bytes text : List ℕ) → source.before ≡ Some bytes → hits.before ≡ Some text → ArePossible format asked bytes text → ⊥
  stopped_at fault stops bytes text is_trace is_hits =
      not_stopped format asked bytes text fault
      (subst (λ o. IfSome o (λ t. stop_of (reading format full_limits bytes) (flags_in t) ≡ Some fault)) is_hits
      (subst (λ o. IfSome o (λ b. IfSome hits.before (λ t. stop_of (reading format full_limits b) (flags_in t) ≡ Some fault))) is_trace stops.both))

  free_at : (before left : Option (List ℕ)) → AnswersJudge format asked before left NoMemory
  free_at None left = tt
  free_at (Some bytes) None = tt
  free_at (Some bytes) (Some text) = tt

  pub judge_complete : (status : Status) → JudgeEnds format asked source hits report (ending_of status) → AnswersJudge format asked source.before hits.before status
  judge_complete Done (text, judged, all) = judged_at format asked source hits text source.before hits.before refl refl known_trace known_hits judged
  judge_complete (BadLine line kind) e = no_answer (BadLine line kind) source.before hits.before known_trace known_hits (λ bytes text never. never) (stopped_at (flag.Trace (of_trace.BadLine line kind)) e.0.0)
  judge_complete (Limit MostRequests) e = no_answer (Limit MostRequests) source.before hits.before known_trace known_hits (λ bytes text never. never) (stopped_at (flag.Trace of_trace.TooManyRequests) e.0.0)
  judge_complete (Limit TraceBytes) e = no_answer (Limit TraceBytes) source.before hits.before known_trace known_hits (λ bytes text never. never) (stopped_at (flag.Trace of_trace.InputTooLong) e.0.0)
  judge_complete (Limit Denominator) e = absurd e.0
  judge_complete (Limit PassRequests) e = absurd e.0
  judge_complete (Limit PassBytes) e = absurd e.0
  judge_complete (Limit PassObjects) e = absurd e.0
  judge_complete (PolicyMemory policy capacity) e = absurd e.0
  judge_complete (NotFlag line) e = no_answer (NotFlag line) source.before hits.before known_trace known_hits (λ bytes text never. never) (stopped_at (flag.NotFlag line) e.0.0)
  judge_complete (FlagCount flags requests) e = no_answer (FlagCount flags requests) source.before hits.before known_trace known_hits (λ bytes text never. never) (stopped_at (flag.Count flags requests) e.0.0)
  judge_complete (Impossible cause capacity) e =
      no_answer (Impossible cause capacity) source.before hits.before known_trace known_hits (λ bytes text never. never)
      (λ bytes text is_trace is_hits. impossible_at format asked source hits e.0.requests e.0.notes e.0.flags bytes text is_trace is_hits e.0.read e.0.impossible)
  judge_complete NoMemory e = free_at source.before hits.before
  judge_complete TraceFault e = absurd (source_works e.0)
  judge_complete CertFault e = absurd (hits_work e.0)
  judge_complete ReportFault (text, judged, failed) = absurd (report_works failed.0)
  judge_complete MadeFault e = absurd e.0
  judge_complete (Invalid line kind) e = absurd e.0
  judge_complete (Words fault) e = absurd e.0
  judge_complete (Unequal first other) e = absurd e.0

-- why no claims are read, as the refusal of a run
pub judge_unread : (format : Format) (asked : JudgeSettings) (source hits : Device) (fault : FlagFault) → AreUnread format source hits fault → AreNear format source hits fault → RefusesJudge format asked source hits (refusal_of_flags fault)
judge_unread format asked source hits (flag.Trace (of_trace.BadLine line kind)) why near = (why, near)
judge_unread format asked source hits (flag.Trace of_trace.ReadFault) why near = why
judge_unread format asked source hits (flag.Trace of_trace.InputTooLong) why near = (why, near)
judge_unread format asked source hits (flag.Trace of_trace.TooManyRequests) why near = (why, near)
judge_unread format asked source hits (flag.Trace of_trace.NoMemory) why near = tt
judge_unread format asked source hits (flag.NotFlag line) why near = (why, near)
judge_unread format asked source hits (flag.Count flags requests) why near = (why, near)
judge_unread format asked source hits flag.ReadFault why near = why
judge_unread format asked source hits flag.NoMemory why near = tt
