-- A walk without an event, over the readings of a trace and of a certificate.
use Rattle.std.proofs.Common.{◌≡◌, ◌≢◌, ℕ, suc, zero, ◌+◌, ◌<◌, ◌≤◌, ◌∙◌, sym, refl, ap, subst, Bool, true, false, ◌==◌, cond, nat_lt, List, [], ◌∷◌, ◌++◌, length, map, arith, None, Some, is_some, true≢false, unwrap_or, eq-eqb, ⊎_elim}
use Rattle.std.specs.declared.option.Option.{Option}
use Rattle.std.specs.Option.{option_or, option_map}
use Rattle.std.specs.List.{range_with_len}
use Rattle.std.proofs.lemmas.Bool.{cases_eq, cases_lt, eqb-false, le-ltb, ltb-false, ne_eqb}
use Rattle.cache_model.specs.declared.objects.Object.{Object}
use Rattle.cache_model.specs.declared.certificates.Header.{Header}
use Rattle.cache_model.specs.declared.certificates.Record.{Record}
use Rattle.cache_model.specs.Certificates.{IsCertificate, IsValid}
use Rattle.cache_model.specs.Texts.{cert_text, header_len}
use Rattle.bound_io.specs.Lines.{text_len, first_text, after_line}
use Rattle.trace_any.specs.Readings as traces
use Rattle.cert_format.specs.declared.fault.TextKind.{TextKind}
use Rattle.cert_format.specs.declared.fault.TextKind.TheVariants.{TooLong}
use Rattle.cert_format.specs.declared.fault.CertFault.{CertFault}
use Rattle.cert_format.specs.declared.fault.CertFault.TheVariants.{BadText, Truncated, Trailing}
use Rattle.cert_checker.specs.declared.invalid.InvalidKind.{InvalidKind}
use Rattle.cert_checker.specs.declared.invalid.InvalidKind.TheVariants.{RequestCount}
use Rattle.cert_format.specs.Grammar.{Slot, end_slots, header_slots, line_fault, number_at, record_slots}
use Rattle.cert_format.specs.Laws.{IsSpelled}
use Rattle.cert_format.specs.Readings.{Reading, after_lines, first_fault, header_fault, header_in, in_line, is_warmup, line_text, lines_fault, onto, read_after, read_records, reading, record_in, record_text_fault, trailing, under, unless, whole}
use Rattle.cert_format.proofs.Wholes.{read_written, written_read}
use Rattle.cert_checker.specs.Laws.{IsFaultless, PassingIsValid}
use Rattle.cert_checker.specs.Rules.{end_fault, first_some, found, record_fault}
use Rattle.cert_checker.specs.Walks.{at_line, last_events, refusal_event, text_after, text_event, events_at, events_by_request, walk_under}
use Rattle.cert_checker.proofs.Faultless.{IsFaultless-valid}
use Rattle.cert_checker.proofs.Passing.{first_some-append, first_some-head, first_some-none, first_some-tail, found-none, found-not}
use Rattle.cert_checker.proofs.Validity.{IsValid-faultless}

none≢some : {A : Type 0} {a : A} → None ≡ Some a → ⊥
none≢some e = true≢false (sym (ap is_some e))

-- ---- the faults of a text are events

-- where there is no event, there is no fault
abbrev IsShown : Option CertFault → Type 0
IsShown o = text_event o ≡ None → o ≡ None

Shown-none : IsShown None
Shown-none e = refl

Shown-bad : (n : ℕ) (kind : TextKind) → IsShown (Some (BadText n kind))
Shown-bad n kind e = absurd (none≢some (sym e))

Shown-or : (o p : Option CertFault) → IsShown o → IsShown p → IsShown (option_or o p)
Shown-or None p first second e = second e
Shown-or (Some f) p first second e = absurd (none≢some (sym (first e)))

Shown-line : (n : ℕ) (o : Option TextKind) → IsShown (option_map (in_line n) o)
Shown-line n None e = refl
Shown-line n (Some kind) e = absurd (none≢some (sym e))

Shown-first : (n : ℕ) (slots : List Slot) (bytes : List ℕ) → IsShown (first_fault n slots bytes)
Shown-first n slots bytes = at (nat_lt 65535 (text_len bytes)) (nat_lt (text_len bytes) (length bytes))
  where
    at : (b d : Bool) → IsShown (cond b (Some (BadText n TooLong)) (cond d (option_map (in_line n) (line_fault slots (first_text bytes))) (Some (Truncated n))))
    at true d e = absurd (none≢some (sym e))
    at false true e = Shown-line n (line_fault slots (first_text bytes)) e
    at false false e = absurd (none≢some (sym e))

Shown-lines : (n : ℕ) (lines : List (List Slot)) (bytes : List ℕ) → IsShown (lines_fault n lines bytes)
Shown-lines n [] bytes = Shown-none
Shown-lines n (slots ∷ lines) bytes =
    Shown-or (first_fault n slots bytes) (lines_fault (n + 1) lines (after_line bytes)) (Shown-first n slots bytes) (Shown-lines (n + 1) lines (after_line bytes))

Shown-trailing : (n : ℕ) (bytes : List ℕ) → IsShown (trailing n bytes)
Shown-trailing n bytes = at (length bytes == 0)
  where
    at : (b : Bool) → IsShown (cond b None (Some (Trailing n)))
    at true e = refl
    at false e = absurd (none≢some (sym e))

-- what is read of the records and of the end: no more records than there should be
record IsRead (most : ℕ) (r : Reading) : Type 0 where
  shown : IsShown r.fault
  few : length r.records ≤ most

IsRead-unless : (o : Option CertFault) (most : ℕ) (r : Reading) → IsShown o → IsRead most r → IsRead most (unless o r)
IsRead-unless None most r known is = is
IsRead-unless (Some f) most r known is = record { shown = known; few = omega arith }

IsRead-records : (version before k n : ℕ) (bytes : List ℕ) → IsRead k (read_records version before k n bytes)
unfolding read_records
IsRead-records version before zero n bytes = record {
  shown = Shown-or (first_fault n end_slots bytes) (trailing (n + 1) (after_line bytes)) (Shown-first n end_slots bytes) (Shown-trailing (n + 1) (after_line bytes));
  few = omega arith;
}
IsRead-records version before (suc k) n bytes =
    let r = record_in version before (first_text bytes) in
    let rest : IsRead k (read_records version r.price k (n + 1) (after_line bytes)) = IsRead-records version r.price k (n + 1) (after_line bytes) in
    let few : length (read_records version r.price k (n + 1) (after_line bytes)).records ≤ k = rest.few in
    IsRead-unless (record_text_fault version before n bytes) (suc k) (onto r (read_records version r.price k (n + 1) (after_line bytes))) (Shown-first n (record_slots version before (first_text bytes)) bytes)
    (record { shown = rest.shown; few = omega arith })

-- a reading has a header, with no more records than it says, or a fault
record IsReading (r : Reading) : Type 0 where
  shown : IsShown r.fault
  headless : r.header ≡ None → r.fault ≢ None
  few : (h : Header) → r.header ≡ Some h → length r.records ≤ h.requests

reading-is : (bytes : List ℕ) → IsReading (reading bytes)
reading-is bytes =
    at (header_fault bytes) (Shown-lines 1 (header_slots (number_at 1 (line_text 3 bytes)) (is_warmup (line_text 11 bytes))) bytes) (IsRead-records (header_in bytes).version 0 (header_in bytes).requests (header_len (header_in bytes) + 1) (after_lines (header_len (header_in bytes)) bytes))
  where
    rest : Reading
    rest = read_after (header_in bytes) bytes

    at : (o : Option CertFault) → IsShown o → IsRead (header_in bytes).requests (read_after (header_in bytes) bytes)
        → IsReading (unless o (under (header_in bytes) (read_after (header_in bytes) bytes)))
    at None known is = record {
      shown = is.shown;
      headless = λ e. absurd (none≢some (sym e));
      few = λ h e. let same : header_in bytes ≡ h = ap (λ o. unwrap_or o h) e in subst (λ (g : Header). length (read_after (header_in bytes) bytes).records ≤ g.requests) same is.few;
    }
    at (Some f) known is = record {
      shown = known;
      headless = λ e none. none≢some (sym none);
      few = λ h e. absurd (none≢some e);
    }

-- ---- first events

at_line-none : (line : ℕ) (o : Option InvalidKind) → at_line line o ≡ None → o ≡ None
at_line-none line None e = refl
at_line-none line (Some kind) e = absurd (none≢some (sym e))

none-at_line : (line : ℕ) (o : Option InvalidKind) → o ≡ None → at_line line o ≡ None
none-at_line line o e = ap (at_line line) e

first_some-both : {A : Type 0} (xs ys : List (Option A)) → first_some (xs ++ ys) ≡ None → (first_some xs ≡ None) × (first_some ys ≡ None)
first_some-both [] ys e = (refl, e)
first_some-both (None ∷ xs) ys e = first_some-both xs ys e
first_some-both (Some a ∷ xs) ys e = absurd (none≢some (sym e))

first_some-range : {A : Type 0} (f : ℕ → Option A) (a n : ℕ) → first_some (map f (range_with_len a n)) ≡ None → (t : ℕ) → a ≤ t → t < a + n → f t ≡ None
first_some-range f a zero e t low high = absurd (omega arith)
first_some-range f a (suc n) e t low high =
    ⊎_elim
    (λ (here : a ≡ t). ap f (sym here) ∙ first_some-head (f a) (map f (range_with_len (a + 1) n)) e)
    (λ (ne : a ≢ t). first_some-range f (a + 1) n (first_some-tail (f a) (map f (range_with_len (a + 1) n)) e) t (omega arith) (omega arith))
    (cases_eq a t)

range-first_some : {A : Type 0} (f : ℕ → Option A) (a n : ℕ) → ((t : ℕ) → a ≤ t → t < a + n → f t ≡ None) → first_some (map f (range_with_len a n)) ≡ None
range-first_some f a zero each = refl
range-first_some f a (suc n) each =
    first_some-none (f a) (map f (range_with_len (a + 1) n)) (each a (omega arith) (omega arith)) (range-first_some f (a + 1) n (λ t low high. each t (omega arith) (omega arith)))

-- a request without an event
record RequestPasses (h : Header) (fills : List Bool) (c : Reading) (trace : List Object) (t : ℕ) : Type 0 where
  more : (t == h.requests) ≡ false
  text : text_after c t ≡ None
  rules : record_fault h fills trace c.records t ≡ None

RequestPasses-from_none : (h : Header) (fills : List Bool) (c : Reading) (trace : List Object) (t : ℕ) → first_some (events_at h fills c trace t) ≡ None → RequestPasses h fills c trace t
RequestPasses-from_none h fills c trace t e0 =
    let e1 : first_some (text_after c t ∷ at_line (header_len h + 1 + t) (record_fault h fills trace c.records t) ∷ []) ≡ None =
    first_some-tail (at_line (header_len h + t) (found (t == h.requests) (RequestCount h.requests (t + 1)))) (text_after c t ∷ at_line (header_len h + 1 + t) (record_fault h fills trace c.records t) ∷ []) e0 in
    let e2 : first_some (at_line (header_len h + 1 + t) (record_fault h fills trace c.records t) ∷ []) ≡ None =
    first_some-tail (text_after c t) (at_line (header_len h + 1 + t) (record_fault h fills trace c.records t) ∷ []) e1 in
    record {
      more = found-none _ _ (at_line-none (header_len h + t) _ (first_some-head _ (text_after c t ∷ at_line (header_len h + 1 + t) (record_fault h fills trace c.records t) ∷ []) e0));
      text = first_some-head (text_after c t) (at_line (header_len h + 1 + t) (record_fault h fills trace c.records t) ∷ []) e1;
      rules = at_line-none (header_len h + 1 + t) (record_fault h fills trace c.records t) (first_some-head (at_line (header_len h + 1 + t) (record_fault h fills trace c.records t)) [] e2);
    }

none_from_RequestPasses : (h : Header) (fills : List Bool) (c : Reading) (trace : List Object) (t : ℕ) → RequestPasses h fills c trace t → first_some (events_at h fills c trace t) ≡ None
none_from_RequestPasses h fills c trace t p =
    first_some-none _ (text_after c t ∷ at_line (header_len h + 1 + t) (record_fault h fills trace c.records t) ∷ []) (none-at_line (header_len h + t) _ (found-not _ _ p.more))
    (first_some-none (text_after c t) (at_line (header_len h + 1 + t) (record_fault h fills trace c.records t) ∷ []) p.text
    (first_some-none (at_line (header_len h + 1 + t) (record_fault h fills trace c.records t)) [] (none-at_line (header_len h + 1 + t) _ p.rules) refl))

-- an end without an event, of a trace that is not refused
record EndPasses (h : Header) (fills : List Bool) (c : Reading) (trace : List Object) : Type 0 where
  enough : nat_lt (length trace) h.requests ≡ false
  text : text_after c (length trace) ≡ None
  rules : end_fault h fills trace c.records ≡ None

EndPasses-from_none : (h : Header) (c : Reading) (trace : traces.Reading) → first_some (last_events h c trace) ≡ None → EndPasses h trace.fills c trace.requests
EndPasses-from_none h c trace e0 =
    let e1 : first_some (at_line (header_len h + length trace.requests) (found (nat_lt (length trace.requests) h.requests) (RequestCount h.requests (length trace.requests)))
    ∷ text_after c (length trace.requests) ∷ at_line (header_len h + 1 + length trace.requests) (end_fault h trace.fills trace.requests c.records) ∷ []) ≡ None =
    first_some-tail (refusal_event trace.refused)
    (at_line (header_len h + length trace.requests) (found (nat_lt (length trace.requests) h.requests) (RequestCount h.requests (length trace.requests)))
    ∷ text_after c (length trace.requests) ∷ at_line (header_len h + 1 + length trace.requests) (end_fault h trace.fills trace.requests c.records) ∷ []) e0 in
    let e2 : first_some (text_after c (length trace.requests) ∷ at_line (header_len h + 1 + length trace.requests) (end_fault h trace.fills trace.requests c.records) ∷ []) ≡ None =
    first_some-tail (at_line (header_len h + length trace.requests) (found (nat_lt (length trace.requests) h.requests) (RequestCount h.requests (length trace.requests))))
    (text_after c (length trace.requests) ∷ at_line (header_len h + 1 + length trace.requests) (end_fault h trace.fills trace.requests c.records) ∷ []) e1 in
    let e3 : first_some (at_line (header_len h + 1 + length trace.requests) (end_fault h trace.fills trace.requests c.records) ∷ []) ≡ None =
    first_some-tail (text_after c (length trace.requests)) (at_line (header_len h + 1 + length trace.requests) (end_fault h trace.fills trace.requests c.records) ∷ []) e2 in
    record {
      enough = found-none _ _ (at_line-none (header_len h + length trace.requests) (found (nat_lt (length trace.requests) h.requests) (RequestCount h.requests (length trace.requests)))
          (first_some-head (at_line (header_len h + length trace.requests) (found (nat_lt (length trace.requests) h.requests) (RequestCount h.requests (length trace.requests))))
          (text_after c (length trace.requests) ∷ at_line (header_len h + 1 + length trace.requests) (end_fault h trace.fills trace.requests c.records) ∷ []) e1));
      text = first_some-head (text_after c (length trace.requests)) (at_line (header_len h + 1 + length trace.requests) (end_fault h trace.fills trace.requests c.records) ∷ []) e2;
      rules = at_line-none (header_len h + 1 + length trace.requests) (end_fault h trace.fills trace.requests c.records) (first_some-head (at_line (header_len h + 1 + length trace.requests) (end_fault h trace.fills trace.requests c.records)) [] e3);
    }

none_from_EndPasses : (h : Header) (c : Reading) (trace : traces.Reading) → trace.refused ≡ None → EndPasses h trace.fills c trace.requests → first_some (last_events h c trace) ≡ None
none_from_EndPasses h c trace whole_trace p =
    first_some-none (refusal_event trace.refused) _ (ap refusal_event whole_trace)
    (first_some-none _ _ (none-at_line (header_len h + length trace.requests) _ (found-not _ _ p.enough))
    (first_some-none (text_after c (length trace.requests)) _ p.text
    (first_some-none (at_line (header_len h + 1 + length trace.requests) (end_fault h trace.fills trace.requests c.records)) [] (none-at_line (header_len h + 1 + length trace.requests) _ p.rules) refl)))

-- ---- from the walk to the certificate
module _ (trace : traces.Reading) (bytes : List ℕ) (h : Header) (headed : (reading bytes).header ≡ Some h)
    (passes : first_some (events_by_request h (reading bytes) trace ++ last_events h (reading bytes) trace) ≡ None) where
  n : ℕ
  n = length trace.requests

  parts : (first_some (events_by_request h (reading bytes) trace) ≡ None) × (first_some (last_events h (reading bytes) trace) ≡ None)
  parts = first_some-both (events_by_request h (reading bytes) trace) (last_events h (reading bytes) trace) passes

  each_request : (t : ℕ) → t < length trace.requests → RequestPasses h trace.fills (reading bytes) trace.requests t
  each_request t low =
      RequestPasses-from_none h trace.fills (reading bytes) trace.requests t
      (first_some-range (λ k. first_some (events_at h trace.fills (reading bytes) trace.requests k)) 0 (length trace.requests) parts.0 t (omega arith) (omega arith))

  last : EndPasses h trace.fills (reading bytes) trace.requests
  last = EndPasses-from_none h (reading bytes) trace parts.1

  many : h.requests ≡ length trace.requests
  many =
      let enough : h.requests ≤ length trace.requests = ltb-false (length trace.requests) h.requests last.enough in
      ⊎_elim
      (λ (more : h.requests < length trace.requests). absurd (eqb-false h.requests h.requests (each_request h.requests more).more refl))
      (λ (no_more : length trace.requests ≤ h.requests). omega arith)
      (cases_lt h.requests (length trace.requests))

  -- where the records end, the text has no fault
  no_fault : (reading bytes).fault ≡ None
  no_fault =
      let is : IsReading (reading bytes) = reading-is bytes in
      let few : length (reading bytes).records ≤ h.requests = is.few h headed in
      ⊎_elim
      (λ (early : length (reading bytes).records < length trace.requests).
      is.shown (here (length (reading bytes).records) refl (each_request (length (reading bytes).records) early).text))
      (λ (end : length trace.requests ≤ length (reading bytes).records).
      is.shown (here (length trace.requests) (omega (arith, many)) last.text))
      (cases_lt (length (reading bytes).records) (length trace.requests))
    where
      here : (t : ℕ) → length (reading bytes).records ≡ t → text_after (reading bytes) t ≡ None → text_event (reading bytes).fault ≡ None
      here t e none = sym (ap (λ b. cond b (text_event (reading bytes).fault) None) (eq-eqb (length (reading bytes).records) t e)) ∙ none

  certificate_of : (h : Header) × (records : List Record) × (bytes ≡ cert_text h records) × IsValid trace.requests trace.fills h records
  certificate_of =
      let spelled = read_written bytes no_fault in
      let g : Header = spelled.0 in
      let records : List Record = spelled.1 in
      let is : IsSpelled bytes spelled.0 spelled.1 = spelled.2 in
      let same : spelled.0 ≡ h = ap (λ o. unwrap_or o h) (sym (ap (λ (r : Reading). r.header) is.read) ∙ headed) in
      let same_records : (reading bytes).records ≡ spelled.1 = ap (λ (r : Reading). r.records) is.read in
      let cert : IsCertificate h spelled.1 = subst (λ g. IsCertificate g spelled.1) same is.certificate in (
        h,
        spelled.1,
        is.text ∙ ap (λ g. cert_text g spelled.1) same,
        IsValid-faultless h trace.fills trace.requests spelled.1 cert many
            (λ t low. ap (λ rs. record_fault h trace.fills trace.requests rs t) (sym same_records) ∙ (each_request t low).rules)
            (ap (end_fault h trace.fills trace.requests) (sym same_records) ∙ last.rules),
      )

-- ---- and back
walk-valid : (trace : traces.Reading) → trace.refused ≡ None → (h : Header) (records : List Record) → IsValid trace.requests trace.fills h records → walk_under (Some h) trace (whole h records) ≡ None
walk-valid trace whole_trace h records v =
    let faultless : IsFaultless h trace.fills trace.requests records = IsFaultless-valid h trace.fills trace.requests records v in
    first_some-append (events_by_request h (whole h records) trace) (last_events h (whole h records) trace)
    ∙ ap (λ o. option_or o (first_some (last_events h (whole h records) trace)))
    (range-first_some (λ t. first_some (events_at h trace.fills (whole h records) trace.requests t)) 0 (length trace.requests) (λ t low high.
    none_from_RequestPasses h trace.fills (whole h records) trace.requests t
    (record { more = ne_eqb t h.requests (λ e. omega (arith, v.requests)); text = no_text t; rules = faultless.no_record t (omega arith) })))
    ∙ none_from_EndPasses h (whole h records) trace whole_trace
    (record { enough = le-ltb (length trace.requests) h.requests (omega (arith, v.requests)); text = no_text (length trace.requests); rules = faultless.no_end })
  where
    no_text : (t : ℕ) → text_after (whole h records) t ≡ None
    no_text t = at (length records == t)
      where
        at : (b : Bool) → cond b (text_event None) None ≡ None
        at true = refl
        at false = refl

walk-passes : (trace : traces.Reading) (bytes : List ℕ) → (o : Option Header) → (reading bytes).header ≡ o → walk_under o trace (reading bytes) ≡ None
    → (h : Header) × (records : List Record) × (bytes ≡ cert_text h records) × IsValid trace.requests trace.fills h records
walk-passes trace bytes None none passes = absurd ((reading-is bytes).headless none ((reading-is bytes).shown passes))
walk-passes trace bytes (Some h) headed passes = certificate_of trace bytes h headed passes

-- a walk passes exactly if the certificate is valid
pub passing_is_valid_lem : PassingIsValid
passing_is_valid_lem trace bytes whole_trace = (
  λ passes. walk-passes trace bytes (reading bytes).header refl passes,
  λ (h, records, text, v).
      let read : reading bytes ≡ whole h records = ap reading text ∙ written_read h records v.certificate in
      ap (λ (c : Reading). walk_under c.header trace c) read ∙ walk-valid trace whole_trace h records v,
)
