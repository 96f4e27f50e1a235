-- Why a walk ends where it does, and how it goes on.
use Rattle.std.proofs.Common.{◌≡◌, ℕ, ◌+◌, ◌-◌, ◌<◌, ◌≤◌, ◌∙◌, sym, refl, ap, subst, Bool, List, [], ◌∷◌, ◌++◌, append_assoc, length, length-append, arith, Option, Some, None, IfSome, IfErr, Ok, Err, inl, inr}
use Rattle.std.proofs.lemmas.List.{append-nil}
use Rattle.bound_io.specs.Causes.{HasNewFault}
use Rattle.bound_io.specs.Lines.{stands_in}
use Rattle.bound_io.specs.Devices.{device}
use Rattle.cache_model.specs.declared.objects.Object.{Object}
use Rattle.cache_model.specs.declared.certificates.Header.{Header}
use Rattle.cache_model.specs.declared.certificates.Record.{Record}
use Rattle.cache_model.specs.Texts.{header_len}
use Rattle.cache_rules.specs.Stored.{Requests, mark_if, with_mark, with_request}
use Rattle.trace_any.specs.declared.fault.TraceFault.{TraceFault}
use Rattle.trace_any.specs.declared.fault.TraceFault.TheVariants as refusal
use Rattle.trace_any.specs.Readings as traces
use Rattle.trace_any.specs.Readings.{is_marked}
use Rattle.trace_any.proofs.Marks.{HasMarks, reading-marks}
use Rattle.trace_any.specs.Readers as requests
use Rattle.trace_any.specs.Readers.{IsWhole, bytes_after, last_fills, last_mark}
use Rattle.trace_any.specs.FirstLines.{GoesNoFurther, HasGiven, HasLostFor, HasLostThrough, IsNotPast, StandsAfter, StopsNoFurther}
use Rattle.trace_any.proofs.Coming.{past_both, with_mark-one}
use Rattle.trace_any.proofs.Lost.{lost_after}
use Rattle.trace_any.proofs.Stopping.{stands_then}
use Rattle.trace_any.proofs.Through.{given_next, lost_for}
use Rattle.cert_format.specs.declared.fault.CertFault.{CertFault}
use Rattle.cert_format.specs.declared.fault.CertFault.TheVariants as text
use Rattle.cert_format.specs.declared.fault.TextKind.{TextKind}
use Rattle.cert_format.specs.declared.fault.TextKind.TheVariants as shape
use Rattle.cert_checker.specs.declared.invalid.InvalidKind.TheVariants.{RequestCount}
use Rattle.cert_format.specs.Lines.{known, IsPast, IsWithin}
use Rattle.cert_format.specs.Readings as certificates
use Rattle.cert_format.specs.Readings.{after_lines, bytes_through}
use Rattle.cert_format.specs.Readers as lines
use Rattle.cert_format.proofs.Chains.{after_lines-add, bytes_through-add}
use Rattle.cert_format.proofs.Taken.{at_some, if_known}
use Rattle.cert_checker.specs.declared.walking.CheckFault.{CheckFault}
use Rattle.cert_checker.specs.declared.walking.CheckFault.TheVariants as fault
use Rattle.cert_checker.specs.Checks.{Inputs, HasChecked, HasCheckedAll, HasAsked, HasRecords, EndsSo, IsFailing, IsFresh, IsCalm, IsOfText, IsStop, IsWalked, StandsForAll, AreMarked, fault_at, after_records, of_text, of_trace, taken, trace_source}
use Rattle.cert_checker.specs.Summaries.{Summary}
use Rattle.cert_checker.specs.Walks.{Event, Invalid, Refused, asked, text_event, text_kind, walk}
use Rattle.cert_checker.proofs.OfText.{of_record}
use Rattle.cert_checker.proofs.Marked.{AreMarked-next, after-both}
use Rattle.cert_checker.proofs.Events.{EndsAt, asked_of, walk_of, walked_too_many, walked_text, walked_rule, walked_refused}

-- a fact of both, if both are known
pub if_both : (a b : Option (List ℕ)) (P Q : List ℕ → Type 0) (S : List ℕ → List ℕ → Type 0) → IfSome a P → IfSome b Q → ((x y : List ℕ) → P x → Q y → S x y) → IfSome a (λ x. IfSome b (S x))
if_both None b P Q S p q f = tt
if_both (Some x) None P Q S p q f = tt
if_both (Some x) (Some y) P Q S p q f = f x y p q

pub if_one : (a : Option (List ℕ)) (P Q : List ℕ → Type 0) → IfSome a P → ((x : List ℕ) → P x → Q x) → IfSome a Q
if_one None P Q p f = tt
if_one (Some x) P Q p f = f x p

-- a fault that is new to the later state is new to the earlier one
pub new_fault_since : (first before now : ℕ) → first ≤ before → HasNewFault before now → HasNewFault first now
new_fault_since first before now earlier (inl higher) = inl (omega (arith, earlier, higher))
new_fault_since first before now earlier (inr last) = inr last

-- more lines have no fewer bytes
pub through : (j k : ℕ) (bytes : List ℕ) → j ≤ k → bytes_through k bytes ≡ bytes_through j bytes + bytes_through (k - j) (after_lines j bytes)
through j k bytes low =
    let same : k ≡ j + (k - j) = omega (arith, low) in
    ap (λ n. bytes_through n bytes) same ∙ bytes_through-add j (k - j) bytes

-- the bytes of the lines given, after more of them are
pub consumed_on : (h : Header) (records : List Record) (now end : Inputs) (bytes : List ℕ) → HasRecords h records now bytes → IfSome (known now.cert.lines now.certificate) (IsPast now.cert.lines end.cert.lines)
    → (now.cert.lines.line ≤ end.cert.lines.line) × (end.cert.lines.consumed ≡ bytes_through end.cert.lines.line bytes)
consumed_on h records now end bytes has past =
    let is = at_some (known now.cert.lines now.certificate) _ _ has.stands_in past in
    (is.further, is.consumed ∙ (ap (λ n. n + bytes_through (end.cert.lines.line - now.cert.lines.line) (after_lines now.cert.lines.line bytes)) has.consumed ∙ sym (through now.cert.lines.line end.cert.lines.line bytes is.further)))

-- the line that was read last is that of the last record
pub last_line : (h : Header) (given : Requests) (records : List Record) (checker : Summary) (line : ℕ) → StandsForAll h given records checker → line ≡ header_len checker.header + checker.sums.steps → line ≡ header_len h + length given.objects
last_line h given records checker line stands is = is ∙ (ap (λ k. header_len k + checker.sums.steps) stands.header ∙ ap (λ n. header_len h + n) stands.sums.steps)

-- a buffer at most was taken past a line that was reached
pub near_line : (h : Header) (records : List Record) (start now end : Inputs) (line : ℕ) → IfSome start.certificate (HasRecords h records now) → IfSome (known now.cert.lines now.certificate) (IsPast now.cert.lines end.cert.lines)
    → length end.cert.lines.held ≤ 65536 → end.cert.lines.line ≤ line → IfSome start.certificate (λ text. taken end.cert ≤ bytes_through line text + 65536)
near_line h records start now end line has past held reached =
    if_one start.certificate _ _ has (λ bytes p.
    let on = consumed_on h records now end bytes p past in
    omega (arith, on.1, through end.cert.lines.line line bytes reached, held))

-- the same where the certificate is read no further
pub near_here : (h : Header) (records : List Record) (start end : Inputs) (line : ℕ) → IfSome start.certificate (HasRecords h records end) → length end.cert.lines.held ≤ 65536 → end.cert.lines.line ≤ line → IfSome start.certificate (λ text. taken end.cert ≤ bytes_through line text + 65536)
near_here h records start end line has held reached =
    if_one start.certificate _ _ has (λ bytes p. omega (arith, p.consumed, through end.cert.lines.line line bytes reached, held))

-- the walk over the two readings
pub walk_at : (start : Inputs) (b t : List ℕ) (trace : traces.Reading) (c : certificates.Reading) → traces.reading start.reader.format start.reader.limits b ≡ trace → certificates.reading t ≡ c
    → walk (traces.reading start.reader.format start.reader.limits b) t ≡ walk_of trace c
walk_at start b t trace c trace_is c_is = ap (λ r. walk_of r (certificates.reading t)) trace_is ∙ ap (walk_of trace) c_is

-- how many requests it asks for
pub asked_at : (start : Inputs) (b t : List ℕ) (trace : traces.Reading) (c : certificates.Reading) → traces.reading start.reader.format start.reader.limits b ≡ trace → certificates.reading t ≡ c
    → asked (traces.reading start.reader.format start.reader.limits b) t ≡ asked_of trace c
asked_at start b t trace c trace_is c_is = ap (λ r. asked_of r (certificates.reading t)) trace_is ∙ ap (asked_of trace) c_is

-- the same records, if the certificate is read no further
pub same_records : (h : Header) (records : List Record) (now end : Inputs) (t : List ℕ) → HasRecords h records now t → end.cert ≡ now.cert → end.certificate ≡ now.certificate → HasRecords h records end t
same_records h records now end t q same_cert same_left = record {
  stands_in = ap (λ (c : lines.Reader). known c.lines end.certificate) same_cert ∙ (ap (λ l. known now.cert.lines l) same_left ∙ (q.stands_in ∙ ap (λ (c : lines.Reader). Some (after_lines c.lines.line t)) (sym same_cert)));
  reading = q.reading ∙ ap (λ (c : lines.Reader). after_records h records (lines.to_come c (after_lines c.lines.line t))) (sym same_cert);
  consumed = ap (λ (c : lines.Reader). c.lines.consumed) same_cert ∙ (q.consumed ∙ ap (λ (c : lines.Reader). bytes_through c.lines.line t) (sym same_cert));
}

-- one record more
pub one_record : (h : Header) (records : List Record) (r : Record) (text : List ℕ) (now end : Inputs) (t : List ℕ) → HasRecords h records now t → end.cert.lines.line ≡ now.cert.lines.line + 1
    → IfSome (known now.cert.lines now.certificate) (lines.GoesOn (certificates.onto r) 1 text now.cert end.cert end.certificate) → IfSome (known now.cert.lines now.certificate) (IsPast now.cert.lines end.cert.lines)
    → HasRecords h (records ++ r ∷ []) end t
one_record h records r text now end t has line_is goes past =
    let is = at_some (known now.cert.lines now.certificate) _ _ has.stands_in goes in
    let rest : after_lines 1 (after_lines now.cert.lines.line t) ≡ after_lines end.cert.lines.line t = sym (after_lines-add now.cert.lines.line 1 t) ∙ ap (λ k. after_lines k t) (sym line_is) in
    let coming = lines.to_come end.cert (after_lines end.cert.lines.line t) in
    record {
      stands_in = is.rest ∙ ap (λ b. Some b) rest;
      reading = has.reading ∙ (ap (after_records h records) (is.coming_is ∙ ap (λ b. certificates.onto r (lines.to_come end.cert b)) rest)
          ∙ ap (λ rs. record { header = Some h; records = rs; fault = coming.fault }) (sym (append_assoc records (r ∷ []) coming.records)));
      consumed = (consumed_on h records now end t has past).1;
    }

-- a fault of the text is its event
own_event : (start : Inputs) (f : CertFault) (e : Event) → text_event (Some f) ≡ Some e → IfSome start.certificate (λ text. (certificates.reading text).fault ≡ Some f) → IfSome start.certificate (λ text. text_event (certificates.reading text).fault ≡ Some e)
own_event start f e is own = if_one start.certificate _ _ own (λ t o. ap text_event o ∙ is)

of_kind : (start : Inputs) (line : ℕ) (kind : TextKind) → EndsSo start.certificate line (text_kind kind) → IsOfText start.certificate line (text_kind kind)
of_kind start line shape.Shape is = is
of_kind start line shape.Number is = is
of_kind start line shape.Range is = is
of_kind start line shape.TooLong is = is

-- the text of the certificate is refused, if that is the event
pub text_stop : (start end : Inputs) (cert : lines.Reader) (left : Option (List ℕ)) (faults : ℕ) (f : CertFault) → lines.IsRefused cert (device left end.certificate faults end.certificate_faults) f → start.certificate_faults ≤ faults
    → IfErr {T = Unit {0}} (Err f) (IsWithin end.cert.lines.line) → ((n : ℕ) → end.cert.lines.line ≤ n → IfSome start.certificate (λ text. taken end.cert ≤ bytes_through n text + 65536))
    → ((g : CertFault) (e : Event) → text_event (Some g) ≡ Some e → IfSome (known cert.lines left) (λ bytes. lines.to_come cert bytes ≡ certificates.stopped (Some g)) → IsWalked start (Some e))
    → ((g : CertFault) (e : Event) → text_event (Some g) ≡ Some e → IfSome (known cert.lines left) (λ bytes. lines.to_come cert bytes ≡ certificates.stopped (Some g)) → HasAsked start end)
    → ((g : CertFault) → IfSome (known cert.lines left) (λ bytes. lines.to_come cert bytes ≡ certificates.stopped (Some g)) → IfSome start.certificate (λ text. (certificates.reading text).fault ≡ Some g))
    → IsStop start end (of_text f)
text_stop start end cert left faults (text.BadText n kind) refused earlier reached near walked lost own = record { event = (walked (text.BadText n kind) _ refl refused, of_kind start n kind (own_event start (text.BadText n kind) _ refl (own (text.BadText n kind) refused))); near = (near n reached, lost (text.BadText n kind) _ refl refused) }
text_stop start end cert left faults (text.Truncated n) refused earlier reached near walked lost own = record { event = (walked (text.Truncated n) _ refl refused, own_event start (text.Truncated n) _ refl (own (text.Truncated n) refused)); near = (near n reached, lost (text.Truncated n) _ refl refused) }
text_stop start end cert left faults (text.Trailing n) refused earlier reached near walked lost own = record { event = (walked (text.Trailing n) _ refl refused, own_event start (text.Trailing n) _ refl (own (text.Trailing n) refused)); near = (near n reached, lost (text.Trailing n) _ refl refused) }
text_stop start end cert left faults text.ReadFault refused earlier reached near walked lost own = record { event = new_fault_since start.certificate_faults faults end.certificate_faults earlier refused; near = tt }

module _ (start : Inputs) (h : Header) (given : Requests) (records : List Record) (now : Inputs) (checker : Summary) (checked : HasChecked start h given records now checker) where
  input : length records ≡ length given.objects
  input = checked.stands.input.one_record_each

  within : length given.objects ≤ h.requests
  within = checked.stands.input.within

  -- the requests so far have a mark each, if the form of the trace has marks
  abbrev marked : Bool
  marked = is_marked start.reader.format

  are : AreMarked marked given
  are = subst (λ f. AreMarked (is_marked f) given) checked.same_format checked.marked

  -- a refusal of the trace is the event
  refused_event : (why : TraceFault) (dropped : ℕ) → IfSome (requests.known now.reader now.trace) (λ bytes. requests.IsOver (requests.to_come now.reader bytes) dropped (Some why)) → IsWalked start (Some (Refused why))
  refused_event why dropped over =
      if_both start.trace start.certificate _ _ _ checked.trace_read checked.records_read (λ b t p q.
      let is = at_some (requests.known now.reader now.trace) _ _ p.stands_in over in
      let coming = requests.to_come now.reader p.rest in
      let none : given.objects ++ coming.requests ≡ given.objects = ap (λ xs. given.objects ++ xs) is.requests ∙ append-nil given.objects in
      let no_mark : given.fills ++ coming.fills ≡ given.fills = ap (λ xs. given.fills ++ xs) is.marks ∙ append-nil given.fills in
      walk_at start b t _ _ p.reading q.reading
      ∙ walked_refused h given.objects given.fills records input within checked.stands.no_fault (requests.after given.objects given.fills coming) (lines.to_come now.cert (after_lines now.cert.lines.line t)) why none no_mark is.stop)

  -- and what the trace is refused for
  refused_so : (why : TraceFault) (dropped : ℕ) → IfSome (requests.known now.reader now.trace) (λ bytes. requests.IsOver (requests.to_come now.reader bytes) dropped (Some why))
      → IfSome start.trace (λ b. (traces.reading start.reader.format start.reader.limits b).refused ≡ Some why)
  refused_so why dropped over =
      if_one start.trace _ _ checked.trace_read (λ b p. ap (λ r. r.refused) p.reading ∙ (at_some (requests.known now.reader now.trace) _ _ p.stands_in over).stop)

  -- little is lost beyond what refuses the trace
  lost_through : (end : Inputs) (why : TraceFault) → IsNotPast end.reader why → IfSome (requests.known now.reader now.trace) (λ bytes. StandsAfter now.reader end.reader bytes (requests.known end.reader end.trace))
      → length end.reader.lines.held ≤ 65536 → HasLostThrough start.reader.format start.reader.limits (trace_source start end) why
  lost_through end why not_past stands held =
      if_one start.trace _ _ checked.trace_read (λ b p.
      lost_after start.reader.format start.reader.limits start.reader end.reader why p.begins held not_past b end.trace
      (stands_then (requests.after given.objects given.fills) start.reader now.reader end.reader (Some b) (requests.known now.reader now.trace) (requests.known end.reader end.trace) (λ s. (refl, refl, refl))
      (p.stands_in ∙ ap (λ rest. Some rest) p.rest_is) p.gone.through stands))

  -- the next request is not given
  pub stop_trace : (end : Inputs) (why : TraceFault) → requests.IsStopped now.reader end.reader (requests.known now.reader now.trace) now.trace_faults end.trace_faults why
      → StopsNoFurther now.reader end.reader (trace_source now end) why → length end.reader.lines.held ≤ 65536 → IsStop start end (of_trace why)
  stop_trace end (refusal.BadLine line kind) stopped stops held = record {
    event = (refused_event (refusal.BadLine line kind) end.reader.dropped stopped, refused_so (refusal.BadLine line kind) end.reader.dropped stopped);
    near = lost_through end (refusal.BadLine line kind) stops.0 stops.1 held;
  }
  stop_trace end refusal.ReadFault stopped stops held = record {
    event = new_fault_since start.trace_faults now.trace_faults end.trace_faults (omega (arith, checked.calm.trace)) stopped;
    near = lost_through end refusal.ReadFault stops.0 stops.1 held;
  }
  stop_trace end refusal.InputTooLong stopped stops held = record {
    event = (refused_event refusal.InputTooLong end.reader.dropped stopped, refused_so refusal.InputTooLong end.reader.dropped stopped);
    near = lost_through end refusal.InputTooLong stops.0 stops.1 held;
  }
  stop_trace end refusal.TooManyRequests stopped stops held = record {
    event = (refused_event refusal.TooManyRequests end.reader.dropped stopped, refused_so refusal.TooManyRequests end.reader.dropped stopped);
    near = lost_through end refusal.TooManyRequests stops.0 stops.1 held;
  }
  stop_trace end refusal.NoMemory stopped stops held = record { event = tt; near = tt }

  -- no request is left
  pub end_trace : (end : Inputs) → requests.NextRequest now.reader end.reader (requests.known now.reader now.trace) (requests.known end.reader end.trace) now.trace_faults end.trace_faults (Ok None)
      → end.cert ≡ now.cert → end.certificate ≡ now.certificate → IsCalm start end → HasCheckedAll start h given records end checker
  end_trace end over same_cert same_left calm = record {
    stands = checked.stands;
    trace_read = if_one start.trace _ _ checked.trace_read (λ b p.
        let is = at_some (requests.known now.reader now.trace) _ _ p.stands_in over in
        let coming = requests.to_come now.reader p.rest in
        record {
          requests = ap (λ r. r.requests) p.reading ∙ (ap (λ xs. given.objects ++ xs) is.0.requests ∙ append-nil given.objects);
          marks = ap (λ r. r.fills) p.reading ∙ (ap (λ xs. given.fills ++ xs) is.0.marks ∙ append-nil given.fills);
          dropped_lines = ap (λ r. r.dropped) p.reading ∙ is.0.dropped_lines;
          stop = ap (λ r. r.refused) p.reading ∙ is.0.stop;
        });
    noted = if_one start.trace _ _ checked.trace_read (λ b p.
        let is = at_some (requests.known now.reader now.trace) _ _ p.stands_in over in ap (λ r. r.seen.noted) p.reading ∙ ap (λ s. s.noted) is.3);
    trace_end = if_one start.trace _ _ checked.trace_read (λ b p.
        let is = at_some (requests.known now.reader now.trace) _ _ p.stands_in over in nothing_left end.reader.lines.held end.trace is.1);
    records_read = if_one start.certificate _ _ checked.records_read (λ t q. same_records h records now end t q same_cert same_left);
    calm = calm;
  }
    where
      end_of : (a b : List ℕ) → a ++ b ≡ [] → b ≡ []
      end_of [] b is = is
      end_of (x ∷ a) b is = let wrong : x ∷ (a ++ b) ≡ [] = is in cc

      nothing_left : (held : List ℕ) (left : Option (List ℕ)) → stands_in held left ≡ Some [] → left ≡ Some []
      nothing_left held None is = let wrong : None ≡ Some [] = is in cc
      nothing_left held (Some rest) is = let both : held ++ rest ≡ [] = cc in ap (λ r. Some r) (end_of held rest both)

  module _ (x : Object) (reader : requests.Reader) (left : Option (List ℕ)) (form : reader.format ≡ now.reader.format) (goes : IfSome (requests.known now.reader now.trace) (λ bytes. requests.GoesOn (requests.onto x (last_mark reader)) now.reader reader bytes (requests.known reader left)))
      (no_further : IfSome (requests.known now.reader now.trace) (GoesNoFurther (requests.onto x (last_mark reader)) now.reader reader)) (buffered : length reader.lines.held ≤ 65536) where
    -- the requests after this one
    record Took (b : List ℕ) : Type 0 where
      rest : List ℕ
      stands : requests.known reader left ≡ Some rest
      reading : traces.reading start.reader.format start.reader.limits b ≡ requests.after given.objects given.fills (requests.onto x (last_mark reader) (requests.to_come reader rest))
      begins : IsFresh start.reader
      gone : HasGiven (given.objects ++ x ∷ []) (given.fills ++ with_mark [] (last_mark reader)) start.reader reader b
      rest_is : rest ≡ bytes_after start.reader reader b

    -- the marks of the whole trace
    marks_in : (b : List ℕ) (p : Took b) → HasMarks marked (requests.after given.objects given.fills (requests.onto x (last_mark reader) (requests.to_come reader p.rest)))
    marks_in b p = subst (HasMarks marked) p.reading (reading-marks start.reader.format start.reader.limits b)

    are_next : AreMarked marked (with_request given x (last_mark reader))
    are_next = subst (λ f. AreMarked marked (with_request given x (mark_if (is_marked f) (last_fills reader)))) (sym (form ∙ checked.same_format)) (AreMarked-next marked (last_fills reader) given x are)

    took : IfSome start.trace Took
    took = if_one start.trace _ _ checked.trace_read (λ b p.
        let is = at_some (requests.known now.reader now.trace) _ _ p.stands_in goes in
        let further = at_some (requests.known now.reader now.trace) _ _ p.stands_in no_further in
        record {
          rest = bytes_after now.reader reader p.rest;
          stands = is.rest;
          reading = p.reading ∙ ap (requests.after given.objects given.fills) is.coming;
          begins = p.begins;
          gone = given_next start.reader now.reader reader given.objects given.fills x (last_mark reader) b p.gone (subst (GoesNoFurther (requests.onto x (last_mark reader)) now.reader reader) p.rest_is further);
          rest_is = ap (bytes_after now.reader reader) p.rest_is
              ∙ past_both (now.reader.lines.consumed - start.reader.lines.consumed) (reader.lines.consumed - now.reader.lines.consumed) (reader.lines.consumed - start.reader.lines.consumed) b
              (omega (arith, p.gone.through.consumed, is.further));
        })

    -- the trace has lost what these requests need
    lost_one : (b l : List ℕ) (p : Took b) → left ≡ Some l → HasLostFor start.reader.format start.reader.limits (length given.objects + 1) b l
    lost_one b l p is =
        let stood : Some (reader.lines.held ++ l) ≡ Some p.rest = ap (requests.known reader) (sym is) ∙ p.stands in
        let here : reader.lines.held ++ l ≡ p.rest = cc in
        let coming = requests.to_come reader p.rest in
        let many : length (given.objects ++ x ∷ []) ≡ length given.objects + 1 = length-append given.objects (x ∷ []) in
        let all = length-append given.objects (x ∷ coming.requests) in
        subst (λ n. HasLostFor start.reader.format start.reader.limits n b l) many
        (lost_for start.reader reader start.reader.format start.reader.limits (given.objects ++ x ∷ []) (given.fills ++ with_mark [] (last_mark reader)) b l p.begins p.gone (here ∙ p.rest_is) buffered (omega (arith, many, all, ap (λ r. length r.requests) p.reading)))

    lost_here : (end : Inputs) → end.trace ≡ left → ((b t : List ℕ) → Took b → HasRecords h records now t → asked (traces.reading start.reader.format start.reader.limits b) t ≡ length given.objects + 1) → HasAsked start end
    lost_here end same count =
        if_both start.trace start.certificate _ _ _ took checked.records_read (λ b t p q.
        if_known end.trace _ (λ l e. subst (λ n. HasLostFor start.reader.format start.reader.limits n b l) (sym (count b t p q)) (lost_one b l p (sym same ∙ e))))

    -- one request more than the header says
    pub stop_count : (end : Inputs) → end.trace ≡ left → end.cert ≡ now.cert → end.certificate ≡ now.certificate → length now.cert.lines.held ≤ 65536 → now.cert.lines.line ≡ header_len h + length given.objects → length given.objects ≡ h.requests
        → IsStop start end (fault.Invalid (header_len h + length given.objects) (RequestCount h.requests (length given.objects + 1)))
    stop_count end same_trace same_cert same_left held line_is full = record {
      event = (
        if_both start.trace start.certificate _ _ _ took checked.records_read (λ b t p q.
            walk_at start b t _ _ p.reading q.reading ∙ (ends b t p).0),
        tt,
      );
      near = (
        near_here h records start end (header_len h + length given.objects) (if_one start.certificate _ _ checked.records_read (λ t q. same_records h records now end t q same_cert same_left))
            (subst (λ (c : lines.Reader). length c.lines.held ≤ 65536) (sym same_cert) held)
            (subst (λ (c : lines.Reader). c.lines.line ≤ header_len h + length given.objects) (sym same_cert) (omega (arith, line_is))),
        lost_here end same_trace (λ b t p q. asked_at start b t _ _ p.reading q.reading ∙ (ends b t p).1),
      );
    }
      where
        ends : (b t : List ℕ) (p : Took b) → EndsAt given.objects (requests.after given.objects given.fills (requests.onto x (last_mark reader) (requests.to_come reader p.rest))) (after_records h records (lines.to_come now.cert (after_lines now.cert.lines.line t)))
            (Invalid (header_len h + length given.objects) (RequestCount h.requests (length given.objects + 1)))
        ends b t p = walked_too_many h given.objects given.fills records input within checked.stands.no_fault marked are x (last_mark reader) (requests.to_come reader p.rest) (marks_in b p) (lines.to_come now.cert (after_lines now.cert.lines.line t)) full

    -- the record is not read
    pub stop_text : (end : Inputs) (f : CertFault) → end.trace ≡ left → length given.objects < h.requests → lines.IsRefused now.cert (device now.certificate end.certificate now.certificate_faults end.certificate_faults) f
        → IfErr {T = Unit {0}} (Err f) (IsWithin end.cert.lines.line) → IfSome (known now.cert.lines now.certificate) (IsPast now.cert.lines end.cert.lines) → length end.cert.lines.held ≤ 65536
        → IsStop start end (of_text f)
    stop_text end f same_trace fewer refused reached past held = text_stop start end now.cert now.certificate now.certificate_faults f refused (omega (arith, checked.calm.certificate)) reached
        (λ n low. near_line h records start now end n checked.records_read past held low) (λ g e event stopped.
        if_both start.trace start.certificate _ _ _ took checked.records_read (λ b t p q.
        walk_at start b t _ _ p.reading q.reading ∙ (ends b t p q g e event stopped).0))
        (λ g e event stopped. lost_here end same_trace (λ b t p q. asked_at start b t _ _ p.reading q.reading ∙ (ends b t p q g e event stopped).1))
        (λ g stopped. if_one start.certificate _ _ checked.records_read (λ t q. ap (λ r. r.fault) q.reading ∙ ap (λ r. r.fault) (at_some (known now.cert.lines now.certificate) _ _ q.stands_in stopped)))
      where
        ends : (b t : List ℕ) (p : Took b) → HasRecords h records now t → (g : CertFault) (e : Event) → text_event (Some g) ≡ Some e → IfSome (known now.cert.lines now.certificate) (λ bytes. lines.to_come now.cert bytes ≡ certificates.stopped (Some g))
            → EndsAt given.objects (requests.after given.objects given.fills (requests.onto x (last_mark reader) (requests.to_come reader p.rest))) (after_records h records (lines.to_come now.cert (after_lines now.cert.lines.line t))) e
        ends b t p q g e event stopped =
            walked_text h given.objects given.fills records input within checked.stands.no_fault marked are x (last_mark reader) (requests.to_come reader p.rest) (marks_in b p) (lines.to_come now.cert (after_lines now.cert.lines.line t)) g e fewer (at_some (known now.cert.lines now.certificate) _ _ q.stands_in stopped) event

    module _ (r : Record) (written : List ℕ) (end : Inputs) (line_is : end.cert.lines.line ≡ now.cert.lines.line + 1)
        (goes_on : IfSome (known now.cert.lines now.certificate) (lines.GoesOn (certificates.onto r) 1 written now.cert end.cert end.certificate))
        (past : IfSome (known now.cert.lines now.certificate) (IsPast now.cert.lines end.cert.lines)) where
      -- the record is read
      pub records_on : IfSome start.certificate (HasRecords h (records ++ r ∷ []) end)
      records_on = if_one start.certificate _ _ checked.records_read (λ t q. one_record h records r written now end t q line_is goes_on past)

      -- and fails a rule
      pub stop_rule : (why : CheckFault) → end.trace ≡ left → length given.objects < h.requests → now.cert.lines.line ≡ header_len h + length given.objects → length end.cert.lines.held ≤ 65536
          → IsFailing end.cert.lines.line (fault_at h (with_request given x (last_mark reader)) (records ++ r ∷ []) (length given.objects)) why → IsStop start end why
      stop_rule (fault.Invalid line kind) same_trace fewer first held fails = record {
        event = (
          if_both start.trace start.certificate _ _ _ took checked.records_read (λ b t p q.
              walk_at start b t _ _ p.reading q.reading ∙ ((ends b t p q).0 ∙ ap (λ l. Some (Invalid l kind)) (sym at))),
          of_record start.certificate line h (with_request given x (last_mark reader)).fills (with_request given x (last_mark reader)).objects (records ++ r ∷ []) (length given.objects) kind fails.1,
        );
        near = (
          near_here h (records ++ r ∷ []) start end line records_on held (omega (arith, fails.0)),
          lost_here end same_trace (λ b t p q. asked_at start b t _ _ p.reading q.reading ∙ (ends b t p q).1),
        );
      }
        where
          at : line ≡ header_len h + 1 + length given.objects
          at = omega (arith, fails.0, line_is, first)

          ends : (b t : List ℕ) (p : Took b) → HasRecords h records now t
              → EndsAt given.objects (requests.after given.objects given.fills (requests.onto x (last_mark reader) (requests.to_come reader p.rest))) (after_records h records (lines.to_come now.cert (after_lines now.cert.lines.line t))) (Invalid (header_len h + 1 + length given.objects) kind)
          ends b t p q =
              let is = at_some (known now.cert.lines now.certificate) _ _ q.stands_in goes_on in
              walked_rule h given.objects given.fills records input within checked.stands.no_fault marked are x (last_mark reader) (requests.to_come reader p.rest) (marks_in b p) are_next r _ (lines.to_come now.cert (after_lines now.cert.lines.line t)) kind fewer is.coming_is fails.1
      stop_rule (fault.Trace why) same_trace fewer first held fails = absurd fails
      stop_rule fault.CertReadFault same_trace fewer first held fails = absurd fails
      stop_rule fault.NoMemory same_trace fewer first held fails = record { event = tt; near = tt }

      -- or passes
      pub goes_further : (next : Summary) → end.reader ≡ reader → end.trace ≡ left → StandsForAll h (with_request given x (last_mark reader)) (records ++ r ∷ []) next → IsCalm start end → HasChecked start h (with_request given x (last_mark reader)) (records ++ r ∷ []) end next
      goes_further next same_reader same_left stands calm = record {
        stands = stands;
        marked = subst (λ f. AreMarked (is_marked f) (with_request given x (last_mark reader))) (sym same_form) are_next;
        same_format = same_form;
        trace_read = if_one start.trace _ _ took (λ b p.
            let coming = requests.to_come reader p.rest in
            record {
              rest = p.rest;
              stands_in = ap (λ (s : requests.Reader). requests.known s end.trace) same_reader ∙ (ap (requests.known reader) same_left ∙ p.stands);
              reading = p.reading ∙ (after-both given.objects given.fills x (last_mark reader) coming
                  ∙ ap (λ (s : requests.Reader). requests.after (given.objects ++ x ∷ []) (with_mark given.fills (last_mark reader)) (requests.to_come s p.rest)) (sym same_reader));
              begins = p.begins;
              gone = subst (λ (s : requests.Reader). HasGiven (given.objects ++ x ∷ []) (with_mark given.fills (last_mark reader)) start.reader s b) (sym same_reader)
                  (subst (λ fills. HasGiven (given.objects ++ x ∷ []) fills start.reader reader b) (with_mark-one given.fills (last_mark reader)) p.gone);
              rest_is = p.rest_is ∙ ap (λ (s : requests.Reader). bytes_after start.reader s b) (sym same_reader);
            });
        records_read = records_on;
        calm = calm;
      }
        where
          same_form : end.reader.format ≡ start.reader.format
          same_form = ap (λ (s : requests.Reader). s.format) same_reader ∙ (form ∙ checked.same_format)
