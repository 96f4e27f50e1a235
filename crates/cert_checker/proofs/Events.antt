-- The first event of a walk that has come so far.
use Rattle.std.proofs.Common.{◌≡◌, ℕ, zero, suc, ◌+◌, ◌<◌, ◌≤◌, ◌∙◌, sym, refl, ap, Bool, true, false, not, cond, ◌==◌, nat_lt, List, [], ◌∷◌, ◌++◌, append_assoc, length, map, arith, Option, Some, None, eq-eqb}
use Rattle.std.proofs.lemmas.List.{length-append, append-nil}
use Rattle.std.proofs.lemmas.Bool.{ne_eqb, lt-ltb, le-ltb}
use Rattle.std.specs.List.{position_or_len, range_with_len}
use Rattle.std.specs.Option.{is_some}
use Rattle.cache_model.specs.declared.objects.Object.{Object}
use Rattle.cache_model.specs.Claim.{only_fills}
use Rattle.cache_rules.specs.Stored.{with_mark, with_request}
use Rattle.cache_model.specs.declared.certificates.Header.{Header}
use Rattle.cache_model.specs.declared.certificates.Record.{Record}
use Rattle.cache_model.specs.Texts.{header_len}
use Rattle.trace_any.specs.declared.fault.TraceFault.{TraceFault}
use Rattle.trace_any.specs.Readings as traces
use Rattle.trace_any.specs.Readers as requests
use Rattle.cert_format.specs.declared.fault.CertFault.{CertFault}
use Rattle.cert_checker.specs.declared.invalid.InvalidKind.{InvalidKind}
use Rattle.cert_checker.specs.declared.invalid.InvalidKind.TheVariants.{RequestCount}
use Rattle.cert_format.specs.Readings as certificates
use Rattle.trace_any.proofs.Coming.{with_mark-one}
use Rattle.cert_checker.specs.Checks.{AreMarked, after_records, fault_at}
use Rattle.cert_checker.specs.Rules.{found, first_some, record_fault, end_fault}
use Rattle.cert_checker.specs.Walks.{Event, Invalid, Refused, asked_under, at_line, text_event, text_after, refusal_event, events_at, last_events, walk_under}
use Rattle.trace_any.proofs.Marks.{HasMarks}
use Rattle.cert_checker.proofs.Marked.{only_fills-first}
use Rattle.cert_checker.proofs.Marks.{record_fault-marks}
use Rattle.cert_checker.proofs.Prefixes.{record_fault-prefix}

-- what gives nothing is passed
skip : {A : Type 0} (o : Option A) (others : List (Option A)) → o ≡ None → first_some (o ∷ others) ≡ first_some others
skip o others is = ap (λ p. first_some (p ∷ others)) is

-- what gives something is the first
stop : {A : Type 0} (o : Option A) (others : List (Option A)) (e : A) → o ≡ Some e → first_some (o ∷ others) ≡ Some e
stop o others e is = ap (λ p. first_some (p ∷ others)) is

-- where none of these gives anything, the first that does stands after them
past_none : {A : Type 0} (f : ℕ → Option A) (rest : List (Option A)) (a n : ℕ) → ((k : ℕ) → a ≤ k → k < a + n → f k ≡ None) → first_some (map f (range_with_len a n) ++ rest) ≡ first_some rest
past_none f rest a zero none = refl
past_none f rest a (suc n) none =
    skip (f a) (map f (range_with_len (a + 1) n) ++ rest) (none a (omega arith) (omega arith))
    ∙ past_none f rest (a + 1) n (λ k low high. none k (omega (arith, low)) (omega (arith, high)))

-- where none before this one gives anything, it is the first that does
stop_at : {A : Type 0} (f : ℕ → Option A) (rest : List (Option A)) (a n m : ℕ) (e : A) → ((k : ℕ) → a ≤ k → k < a + n → f k ≡ None) → f (a + n) ≡ Some e → n < m
    → first_some (map f (range_with_len a m) ++ rest) ≡ Some e
stop_at f rest a n zero e none is within = absurd (omega (arith, within))
stop_at f rest a zero (suc m) e none is within =
    let here : a + 0 ≡ a = omega arith in
    stop (f a) (map f (range_with_len (a + 1) m) ++ rest) e (ap f (sym here) ∙ is)
stop_at f rest a (suc n) (suc m) e none is within =
    let same : a + 1 + n ≡ a + suc n = omega arith in
    skip (f a) (map f (range_with_len (a + 1) m) ++ rest) (none a (omega arith) (omega arith))
    ∙ stop_at f rest (a + 1) n m e (λ k low high. none k (omega (arith, low)) (omega (arith, high))) (ap f same ∙ is) (omega (arith, within))

-- how many give nothing before the first that does, or in all
count_to : {A : Type 0} (f : ℕ → Option A) (a n m : ℕ) (e : A) → ((k : ℕ) → a ≤ k → k < a + n → f k ≡ None) → f (a + n) ≡ Some e → n < m → position_or_len is_some (map f (range_with_len a m)) ≡ n
count_to f a n zero e none is within = absurd (omega (arith, within))
count_to f a zero (suc m) e none is within =
    let here : a + 0 ≡ a = omega arith in
    ap (λ b. cond (not b) (1 + position_or_len is_some (map f (range_with_len (a + 1) m))) 0) (ap is_some (ap f (sym here) ∙ is))
count_to f a (suc n) (suc m) e none is within =
    let same : a + 1 + n ≡ a + suc n = omega arith in
    let more = count_to f (a + 1) n m e (λ k low high. none k (omega (arith, low)) (omega (arith, high))) (ap f same ∙ is) (omega (arith, within)) in
    ap (λ b. cond (not b) (1 + position_or_len is_some (map f (range_with_len (a + 1) m))) 0) (ap is_some (none a (omega arith) (omega arith))) ∙ omega (arith, more)

count_all : {A : Type 0} (f : ℕ → Option A) (a n : ℕ) → ((k : ℕ) → a ≤ k → k < a + n → f k ≡ None) → position_or_len is_some (map f (range_with_len a n)) ≡ n
count_all f a zero none = refl
count_all f a (suc n) none =
    let more = count_all f (a + 1) n (λ k low high. none k (omega (arith, low)) (omega (arith, high))) in
    ap (λ b. cond (not b) (1 + position_or_len is_some (map f (range_with_len (a + 1) n))) 0) (ap is_some (none a (omega arith) (omega arith))) ∙ omega (arith, more)

-- a kind is not found, or is
not_found : (test : Bool) (line : ℕ) (kind : InvalidKind) → test ≡ false → at_line line (found test kind) ≡ None
not_found test line kind is = ap (λ b. at_line line (cond b (Some kind) None)) is

is_found : (test : Bool) (line : ℕ) (kind : InvalidKind) → test ≡ true → at_line line (found test kind) ≡ Some (Invalid line kind)
is_found test line kind is = ap (λ b. at_line line (cond b (Some kind) None)) is

-- a walk after the header
abbrev pub walk_of : traces.Reading → certificates.Reading → Option Event
walk_of trace c = walk_under c.header trace c

-- how many requests it asks for
abbrev pub asked_of : traces.Reading → certificates.Reading → ℕ
asked_of trace c = asked_under c.header trace c

-- the walk ends at this event, and has asked for one request more than these
abbrev pub EndsAt : List Object → traces.Reading → certificates.Reading → Event → Type 0
EndsAt given trace c e = (walk_of trace c ≡ Some e) × (asked_of trace c ≡ length given + 1)

-- the walk has passed these requests and records
module _ (h : Header) (given : List Object) (fills : List Bool) (records : List Record) (one : length records ≡ length given) (within : length given ≤ h.requests)
    (no_fault : (t : ℕ) → t < length given → record_fault h fills given records t ≡ None) where
  module _ (marks : List Bool) (same : (t : ℕ) → t < length given → only_fills marks t ≡ only_fills fills t) (more : List Object) (c : certificates.Reading) where
    -- the text of the certificate has no fault before
    text_none : (t : ℕ) → t < length given → text_after (after_records h records c) t ≡ None
    text_none t low =
        ap (λ b. cond b (text_event c.fault) None) (ne_eqb (length (records ++ c.records)) t (λ e. omega (arith, e, low, one, length-append records c.records)))

    passes : (t : ℕ) → t < length given → first_some (events_at h marks (after_records h records c) (given ++ more) t) ≡ None
    passes t low =
        let cc = after_records h records c in
        let text = text_after cc t in
        let rule = at_line (header_len h + 1 + t) (record_fault h marks (given ++ more) cc.records t) in
        skip (at_line (header_len h + t) (found (t == h.requests) (RequestCount h.requests (t + 1)))) (text ∷ rule ∷ []) (not_found (t == h.requests) (header_len h + t) (RequestCount h.requests (t + 1)) (ne_eqb t h.requests (λ e. omega (arith, e, low, within))))
        ∙ skip text (rule ∷ []) (text_none t low)
        ∙ skip rule [] (ap (at_line (header_len h + 1 + t)) (record_fault-prefix h marks given more records c.records t low (omega (arith, low, one)) ∙ (record_fault-marks h marks fills given records same t low ∙ no_fault t low)))

  -- the walk goes on with this request, and with these marks in all
  module _ (marked : Bool) (are : AreMarked marked (record { objects = given; fills = fills })) (x : Object) (mark : Option Bool) (rest : traces.Reading)
      (has : HasMarks marked (requests.after given fills (requests.onto x mark rest))) where
    abbrev all : List Bool
    all = fills ++ (with_mark [] mark ++ rest.fills)

    first_marks : (t : ℕ) → t < length given → only_fills all t ≡ only_fills fills t
    first_marks = only_fills-first marked (record { objects = given; fills = fills }) (requests.after given fills (requests.onto x mark rest)) (with_mark [] mark ++ rest.fills) are has refl

    -- an event at a request is the first of the walk, if none comes before
    event_first : (c : certificates.Reading) (e : Event) → first_some (events_at h all (after_records h records c) (given ++ x ∷ rest.requests) (length given)) ≡ Some e
        → EndsAt given (requests.after given fills (requests.onto x mark rest)) (after_records h records c) e
    event_first c e is =
        let trace = given ++ x ∷ rest.requests in
        let f : ℕ → Option Event = λ t. first_some (events_at h all (after_records h records c) trace t) in
        let here : 0 + length given ≡ length given = omega arith in
        let none : (k : ℕ) → 0 ≤ k → k < 0 + length given → f k ≡ None = λ k low high. passes all first_marks (x ∷ rest.requests) c k (omega (arith, high, here)) in
        let within : length given < length trace = omega (arith, length-append given (x ∷ rest.requests)) in (
          stop_at f (last_events h (after_records h records c) (requests.after given fills (requests.onto x mark rest))) 0 (length given) (length trace) e none (ap f here ∙ is) within,
          ap (λ n. n + 1) (count_to f 0 (length given) (length trace) e none (ap f here ∙ is) within),
        )

    -- one request more than the header says
    pub walked_too_many : (c : certificates.Reading) → length given ≡ h.requests
        → EndsAt given (requests.after given fills (requests.onto x mark rest)) (after_records h records c) (Invalid (header_len h + length given) (RequestCount h.requests (length given + 1)))
    walked_too_many c full =
        let t = length given in
        let cc = after_records h records c in
        event_first c _
        (stop (at_line (header_len h + t) (found (t == h.requests) (RequestCount h.requests (t + 1)))) (text_after cc t ∷ at_line (header_len h + 1 + t) (record_fault h all (given ++ x ∷ rest.requests) cc.records t) ∷ []) _
        (is_found (t == h.requests) (header_len h + t) (RequestCount h.requests (t + 1)) (eq-eqb t h.requests full)))

    -- the line of the record is not read
    pub walked_text : (c : certificates.Reading) (f : CertFault) (e : Event) → length given < h.requests → c ≡ certificates.stopped (Some f) → text_event (Some f) ≡ Some e
        → EndsAt given (requests.after given fills (requests.onto x mark rest)) (after_records h records c) e
    walked_text c f e fewer is event =
        let t = length given in
        let cc = after_records h records c in
        let none : length c.records ≡ 0 = ap (λ r. length r.records) is in
        let rule = at_line (header_len h + 1 + t) (record_fault h all (given ++ x ∷ rest.requests) cc.records t) in
        event_first c e
        (skip (at_line (header_len h + t) (found (t == h.requests) (RequestCount h.requests (t + 1)))) (text_after cc t ∷ rule ∷ []) (not_found (t == h.requests) (header_len h + t) (RequestCount h.requests (t + 1)) (ne_eqb t h.requests (λ same. omega (arith, same, fewer))))
        ∙ stop (text_after cc t) (rule ∷ []) e
        (ap (λ b. cond b (text_event c.fault) None) (eq-eqb (length (records ++ c.records)) t (omega (arith, one, none, length-append records c.records)))
        ∙ (ap (λ r. text_event r.fault) is ∙ event)))

    -- the record fails a rule
    pub walked_rule : AreMarked marked (with_request (record { objects = given; fills = fills }) x mark) → (r : Record) (others : certificates.Reading) (c : certificates.Reading) (kind : InvalidKind) → length given < h.requests → c ≡ certificates.onto r others
        → fault_at h (with_request (record { objects = given; fills = fills }) x mark) (records ++ r ∷ []) (length given) ≡ Some kind
        → EndsAt given (requests.after given fills (requests.onto x mark rest)) (after_records h records c) (Invalid (header_len h + 1 + length given) kind)
    walked_rule are_next r others c kind fewer is fails =
        let t = length given in
        let next = after_records h records (certificates.onto r others) in
        let trace = given ++ x ∷ rest.requests in
        let W : certificates.Reading → Option Event = λ d. walk_of (requests.after given fills (requests.onto x mark rest)) (after_records h records d) in
        let rule = at_line (header_len h + 1 + t) (record_fault h all trace next.records t) in
        let trace_is : trace ≡ (given ++ x ∷ []) ++ rest.requests = sym (append_assoc given (x ∷ []) rest.requests) in
        let records_are : next.records ≡ (records ++ r ∷ []) ++ others.records = sym (append_assoc records (r ∷ []) others.records) in
        let all_are : all ≡ with_mark fills mark ++ rest.fills = sym (append_assoc fills (with_mark [] mark) rest.fills) ∙ ap (λ marks. marks ++ rest.fills) (with_mark-one fills mark) in
        let next_marks = only_fills-first marked (with_request (record { objects = given; fills = fills }) x mark) (requests.after given fills (requests.onto x mark rest)) rest.fills are_next has all_are in
        let prefix = ap (λ xs. record_fault h all xs next.records t) trace_is
        ∙ (ap (λ rs. record_fault h all ((given ++ x ∷ []) ++ rest.requests) rs t) records_are
        ∙ (record_fault-prefix h all (given ++ x ∷ []) rest.requests (records ++ r ∷ []) others.records t (omega (arith, length-append given (x ∷ []))) (omega (arith, one, length-append records (r ∷ [])))
        ∙ (record_fault-marks h all (with_mark fills mark) (given ++ x ∷ []) (records ++ r ∷ []) next_marks t (omega (arith, length-append given (x ∷ []))) ∙ fails))) in
        let first = event_first (certificates.onto r others) (Invalid (header_len h + 1 + t) kind)
        (skip (at_line (header_len h + t) (found (t == h.requests) (RequestCount h.requests (t + 1)))) (text_after next t ∷ rule ∷ []) (not_found (t == h.requests) (header_len h + t) (RequestCount h.requests (t + 1)) (ne_eqb t h.requests (λ same. omega (arith, same, fewer))))
        ∙ (skip (text_after next t) (rule ∷ []) (ap (λ b. cond b (text_event others.fault) None) (ne_eqb (length (records ++ r ∷ others.records)) t (λ e. omega (arith, e, one, length-append records (r ∷ others.records)))))
        ∙ stop rule [] _ (ap (at_line (header_len h + 1 + t)) prefix))) in
        (ap W is ∙ first.0, ap (λ d. asked_of (requests.after given fills (requests.onto x mark rest)) (after_records h records d)) is ∙ first.1)

  -- no request gives an event
  close_first : (trace : traces.Reading) (c : certificates.Reading) → trace.requests ≡ given → trace.fills ≡ fills → walk_of trace (after_records h records c) ≡ first_some (last_events h (after_records h records c) trace)
  close_first trace c is marks_are =
      let cc = after_records h records c in
      let end = last_events h cc trace in
      let f : List Bool → List Object → ℕ → Option Event = λ marks xs t. first_some (events_at h marks cc xs t) in
      let all : given ++ [] ≡ given = append-nil given in
      let here : 0 + length given ≡ length given = omega arith in
      ap (λ xs. first_some (map (f trace.fills xs) (range_with_len 0 (length xs)) ++ end)) is
      ∙ (ap (λ marks. first_some (map (f marks given) (range_with_len 0 (length given)) ++ end)) marks_are
      ∙ past_none (f fills given) end 0 (length given) (λ k low high. ap (λ xs. f fills xs k) (sym all) ∙ passes fills (λ t low. refl) [] c k (omega (arith, high, here))))

  -- all requests are asked for, and whether there is one more
  pub asked_all : (trace : traces.Reading) (c : certificates.Reading) → trace.requests ≡ given → trace.fills ≡ fills → asked_of trace (after_records h records c) ≡ length given + 1
  asked_all trace c is marks_are =
      let cc = after_records h records c in
      let f : List Bool → List Object → ℕ → Option Event = λ marks xs t. first_some (events_at h marks cc xs t) in
      let all : given ++ [] ≡ given = append-nil given in
      let here : 0 + length given ≡ length given = omega arith in
      ap (λ xs. position_or_len is_some (map (f trace.fills xs) (range_with_len 0 (length xs))) + 1) is
      ∙ (ap (λ marks. position_or_len is_some (map (f marks given) (range_with_len 0 (length given))) + 1) marks_are
      ∙ ap (λ n. n + 1) (count_all (f fills given) 0 (length given) (λ k low high. ap (λ xs. f fills xs k) (sym all) ∙ passes fills (λ t low. refl) [] c k (omega (arith, high, here)))))

  -- the trace is refused
  pub walked_refused : (trace : traces.Reading) (c : certificates.Reading) (why : TraceFault) → trace.requests ≡ given → trace.fills ≡ fills → trace.refused ≡ Some why
      → walk_of trace (after_records h records c) ≡ Some (Refused why)
  walked_refused trace c why all marks_are is =
      let k = length trace.requests in
      let cc = after_records h records c in
      close_first trace c all marks_are
      ∙ stop (refusal_event trace.refused) (at_line (header_len h + k) (found (nat_lt k h.requests) (RequestCount h.requests k)) ∷ text_after cc k ∷ at_line (header_len h + 1 + k) (end_fault h trace.fills trace.requests cc.records) ∷ []) _ (ap refusal_event is)

  module _ (trace : traces.Reading) (c : certificates.Reading) (all : trace.requests ≡ given) (marks_are : trace.fills ≡ fills) (whole : trace.refused ≡ None) where
    -- the events of the end, by the requests
    abbrev ends : List Bool → List Object → List (Option Event)
    ends marks xs = at_line (header_len h + length xs) (found (nat_lt (length xs) h.requests) (RequestCount h.requests (length xs))) ∷ text_after (after_records h records c) (length xs) ∷ at_line (header_len h + 1 + length xs) (end_fault h marks xs (records ++ c.records)) ∷ []

    close_ends : walk_of trace (after_records h records c) ≡ first_some (ends fills given)
    close_ends = close_first trace c all marks_are ∙ (skip (refusal_event trace.refused) (ends trace.fills trace.requests) (ap refusal_event whole) ∙ (ap (λ marks. first_some (ends marks trace.requests)) marks_are ∙ ap (λ xs. first_some (ends fills xs)) all))

    -- fewer requests than the header says
    pub walked_too_few : length given < h.requests → walk_of trace (after_records h records c) ≡ Some (Invalid (header_len h + length given) (RequestCount h.requests (length given)))
    walked_too_few fewer =
        let t = length given in
        close_ends ∙ stop (at_line (header_len h + t) (found (nat_lt t h.requests) (RequestCount h.requests t))) (text_after (after_records h records c) t ∷ at_line (header_len h + 1 + t) (end_fault h fills given (records ++ c.records)) ∷ []) _
        (is_found (nat_lt t h.requests) (header_len h + t) (RequestCount h.requests t) (lt-ltb t h.requests fewer))

    module _ (full : length given ≡ h.requests) where
      enough : at_line (header_len h + length given) (found (nat_lt (length given) h.requests) (RequestCount h.requests (length given))) ≡ None
      enough = not_found (nat_lt (length given) h.requests) (header_len h + length given) (RequestCount h.requests (length given)) (le-ltb (length given) h.requests (omega (arith, full)))

      text_at : (fault : Option CertFault) → c ≡ certificates.stopped fault → text_after (after_records h records c) (length given) ≡ text_event fault
      text_at fault is =
          let none : length c.records ≡ 0 = ap (λ r. length r.records) is in
          ap (λ b. cond b (text_event c.fault) None) (eq-eqb (length (records ++ c.records)) (length given) (omega (arith, one, none, length-append records c.records)))
          ∙ ap (λ r. text_event r.fault) is

      -- the end is not read
      pub walked_end_text : (f : CertFault) (e : Event) → c ≡ certificates.stopped (Some f) → text_event (Some f) ≡ Some e → walk_of trace (after_records h records c) ≡ Some e
      walked_end_text f e is event =
          let rule = at_line (header_len h + 1 + length given) (end_fault h fills given (records ++ c.records)) in
          close_ends ∙ (skip _ (text_after (after_records h records c) (length given) ∷ rule ∷ []) enough
          ∙ stop (text_after (after_records h records c) (length given)) (rule ∷ []) e (text_at (Some f) is ∙ event))

      -- the end is read, and its rules decide
      pub walked_end : c ≡ certificates.stopped None → walk_of trace (after_records h records c) ≡ first_some (at_line (header_len h + 1 + length given) (end_fault h fills given records) ∷ [])
      walked_end is =
          let t = length given in
          let rule = at_line (header_len h + 1 + t) (end_fault h fills given (records ++ c.records)) in
          let all_records : records ++ c.records ≡ records = ap (λ r. records ++ r.records) is ∙ append-nil records in
          close_ends ∙ (skip _ (text_after (after_records h records c) t ∷ rule ∷ []) enough
          ∙ (skip (text_after (after_records h records c) t) (rule ∷ []) (text_at None is)
          ∙ ap (λ rs. first_some (at_line (header_len h + 1 + t) (end_fault h fills given rs) ∷ [])) all_records))

      pub walked_end_rule : (kind : InvalidKind) → c ≡ certificates.stopped None → end_fault h fills given records ≡ Some kind → walk_of trace (after_records h records c) ≡ Some (Invalid (header_len h + 1 + length given) kind)
      walked_end_rule kind is fails = walked_end is ∙ ap (λ f. first_some (at_line (header_len h + 1 + length given) f ∷ [])) fails

      pub walked_all : c ≡ certificates.stopped None → end_fault h fills given records ≡ None → walk_of trace (after_records h records c) ≡ None
      walked_all is none = walked_end is ∙ ap (λ f. first_some (at_line (header_len h + 1 + length given) f ∷ [])) none
