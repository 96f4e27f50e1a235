-- A check of a certificate against a trace, both read as streams.
use Rattle.std.specs.Prelude.{◌≡◌, ◌⊎◌, ℕ, ◌+◌, ◌≤◌, Bool, true, false, ◌&&◌, List, [], ◌∷◌, ◌++◌, length, None, Some, IfSome, Result, Ok, Err}
use Rattle.std.specs.declared.option.Option.{Option}
use Rattle.bound_io.specs.Causes.{HasNewFault}
use Rattle.bound_io.specs.Devices.{Device, device}
use Rattle.cache_model.specs.declared.objects.Object.{Object}
use Rattle.cache_model.specs.declared.certificates.Header.{Header}
use Rattle.cache_model.specs.declared.certificates.Record.{Record}
use Rattle.cache_model.specs.Texts.{header_len}
use Rattle.cache_rules.specs.Stored.{Requests, with_request}
use Rattle.trace_any.specs.declared.fault.TraceFault.{TraceFault}
use Rattle.trace_any.specs.declared.fault.TraceFault.TheVariants as refusal
use Rattle.trace_any.specs.declared.format.Format.{Format}
use Rattle.trace_any.specs.declared.format.Limits.{Limits}
use Rattle.trace_any.specs.Readings as traces
use Rattle.trace_any.specs.Readings.{is_marked}
use Rattle.trace_any.specs.FirstLines.{HasGiven, HasLostFor, HasLostThrough}
use Rattle.trace_any.specs.Readers.{IsWhole, after, bytes_after, last_fills, last_mark}
use Rattle.trace_any.specs.Readers as requests
use Rattle.cert_format.specs.declared.fault.CertFault.{CertFault}
use Rattle.cert_format.specs.declared.fault.CertFault.TheVariants as text
use Rattle.cert_checker.specs.declared.invalid.InvalidKind.{InvalidKind}
use Rattle.cert_checker.specs.declared.invalid.InvalidKind.TheVariants.{Shape, Number, Range, TooLong, Truncated, Trailing}
use Rattle.cert_format.specs.declared.reader.Stage.TheVariants.{InRecords, AtEnd}
use Rattle.cert_format.specs.Readings.{after_lines, bytes_through, whole}
use Rattle.cert_format.specs.Readings as certificates
use Rattle.cert_format.specs.Readers as lines
use Rattle.cert_format.specs.Lines.{known}
use Rattle.cert_checker.specs.declared.verdict.Verdict.{Verdict}
use Rattle.cert_checker.specs.declared.walking.CheckFault.{CheckFault}
use Rattle.cert_checker.specs.declared.walking.CheckFault.TheVariants as fault
use Rattle.cert_checker.specs.Answers.{IsYes}
use Rattle.cert_checker.specs.Rules.{record_fault}
use Rattle.cert_checker.specs.Summaries.{Summary, StandsFor}
use Rattle.cert_checker.specs.Walks.{Event, Invalid, Refused, asked, text_event, text_kind, walk}

-- where the reader of a trace and that of a certificate stand, and their sources: what is left, if it is known, and the count of faults
pub record Inputs : Type 0 where
  pub reader : requests.Reader
  pub trace : Option (List ℕ)
  pub trace_faults : ℕ
  pub cert : lines.Reader
  pub certificate : Option (List ℕ)
  pub certificate_faults : ℕ

-- the inputs, first those of the trace
abbrev pub inputs : requests.Reader → Option (List ℕ) → ℕ → lines.Reader → Option (List ℕ) → ℕ → Inputs
inputs reader trace trace_faults cert certificate certificate_faults = record {
  reader = reader;
  trace = trace;
  trace_faults = trace_faults;
  cert = cert;
  certificate = certificate;
  certificate_faults = certificate_faults;
}

-- the inputs as they are seen: what a source has left by the one function and its faults by the other, of the trace and then of the certificate
abbrev pub seen_inputs : {T Q : Type 0} → (T → Option (List ℕ)) → (T → ℕ) → (Q → Option (List ℕ)) → (Q → ℕ) → requests.Reader → T → lines.Reader → Q → Inputs
seen_inputs left faults cert_left cert_faults reader trace cert certificate = inputs reader (left trace) (faults trace) cert (cert_left certificate) (cert_faults certificate)

-- the inputs of which the certificate alone is seen: the reader of the trace, what its source has left and its faults are still to be given
abbrev pub seen_cert : {Q : Type 0} → (Q → Option (List ℕ)) → (Q → ℕ) → lines.Reader → Q → requests.Reader → Option (List ℕ) → ℕ → Inputs
seen_cert left faults cert certificate reader trace trace_faults = inputs reader trace trace_faults cert (left certificate) (faults certificate)

-- no call of the reader was made
abbrev pub IsFresh : requests.Reader → Type 0
IsFresh reader = reader ≡ requests.fresh reader.format reader.limits

-- the fault of a check that a fault of the trace is
abbrev pub of_trace : TraceFault → CheckFault
of_trace (refusal.BadLine line kind) = fault.Trace (refusal.BadLine line kind)
of_trace refusal.ReadFault = fault.Trace refusal.ReadFault
of_trace refusal.InputTooLong = fault.Trace refusal.InputTooLong
of_trace refusal.TooManyRequests = fault.Trace refusal.TooManyRequests
of_trace refusal.NoMemory = fault.NoMemory

-- the fault of a check that a fault of the text of the certificate is
abbrev pub of_text : CertFault → CheckFault
of_text (text.BadText line kind) = fault.Invalid line (text_kind kind)
of_text (text.Truncated line) = fault.Invalid line Truncated
of_text (text.Trailing line) = fault.Invalid line Trailing
of_text text.ReadFault = fault.CertReadFault

-- the fault of a step: the first rule that the record fails, at this line, or out of memory if it fails none
abbrev pub IsFailing : ℕ → Option InvalidKind → CheckFault → Type 0
IsFailing line failed (fault.Invalid n kind) = (n ≡ line) × (failed ≡ Some kind)
IsFailing line failed (fault.Trace why) = ⊥
IsFailing line failed fault.CertReadFault = ⊥
IsFailing line failed fault.NoMemory = failed ≡ None

-- there is a mark of each request, or of none if there are no marks
abbrev pub AreMarked : Bool → Requests → Type 0
AreMarked true given = length given.fills ≡ length given.objects
AreMarked false given = given.fills ≡ []

-- the checker stands for these requests, with their marks, and for these records
abbrev pub StandsForAll : Header → Requests → List Record → Summary → Type 0
StandsForAll h given records s = StandsFor h given.fills given.objects records s

-- the first rule that record t of these fails, if there is one
abbrev pub fault_at : Header → Requests → List Record → ℕ → Option InvalidKind
fault_at h given records t = record_fault h given.fills given.objects records t

-- a step from these requests and records
abbrev pub IsSteppedWith : ℕ → Header → Requests → List Record → Object → Option Bool → Record → Summary → Result (Unit {0}) CheckFault → Type 0
IsSteppedWith line h given records x mark r new (Ok done) = StandsForAll h (with_request given x mark) (records ++ r ∷ []) new
IsSteppedWith line h given records x mark r new (Err why) = IsFailing line (fault_at h (with_request given x mark) (records ++ r ∷ []) (length given.objects)) why

-- a step with a request that only fills the cache, if this is true, and the record of this line: with the mark of a reader that gave such a request last, the checker stands for one request and record more, or the rule that fails is named with the line
abbrev pub IsSteppedAt : ℕ → Summary → Summary → Object → Bool → Record → Result (Unit {0}) CheckFault → Type 0
IsSteppedAt line old new x only r result = (reader : requests.Reader) (h : Header) (given : Requests) (records : List Record)
    → only ≡ (is_marked reader.format && last_fills reader) → AreMarked (is_marked reader.format) given → StandsForAll h given records old
    → IsSteppedWith line h given records x (last_mark reader) r new result

-- if the bytes of both sources are known, this is the first event of the walk over them
abbrev pub IsWalked : Inputs → Option Event → Type 0
IsWalked start event = IfSome start.trace (λ bytes. IfSome start.certificate (λ text. walk (traces.reading start.reader.format start.reader.limits bytes) text ≡ event))

-- if the bytes of a trace are known, its reading is refused so
abbrev pub IsRefusedSo : Format → Limits → Option (List ℕ) → TraceFault → Type 0
IsRefusedSo format limits before why = IfSome before (λ bytes. (traces.reading format limits bytes).refused ≡ Some why)

-- if the bytes of a certificate are known, its reading ends at this line with this kind
abbrev pub EndsSo : Option (List ℕ) → ℕ → InvalidKind → Type 0
EndsSo before line kind = IfSome before (λ text. text_event (certificates.reading text).fault ≡ Some (Invalid line kind))

-- a kind that the text of a certificate alone decides is that of its reading
abbrev pub IsOfText : Option (List ℕ) → ℕ → InvalidKind → Type 0
IsOfText before line Shape = EndsSo before line Shape
IsOfText before line Number = EndsSo before line Number
IsOfText before line Range = EndsSo before line Range
IsOfText before line TooLong = EndsSo before line TooLong
IsOfText before line Truncated = EndsSo before line Truncated
IsOfText before line Trailing = EndsSo before line Trailing
IsOfText before line kind = Unit {0}

-- the trace is refused so, which is the first event of the walk
abbrev pub IsRefusedFirst : Inputs → TraceFault → Type 0
IsRefusedFirst start why = IsWalked start (Some (Refused why)) × IsRefusedSo start.reader.format start.reader.limits start.trace why

-- why there is no yes: the first event of the walk, or a source that failed; that memory is out says nothing
abbrev pub IsEvent : Inputs → Inputs → CheckFault → Type 0
IsEvent start end (fault.Invalid line kind) = IsWalked start (Some (Invalid line kind)) × IsOfText start.certificate line kind
IsEvent start end (fault.Trace (refusal.BadLine line kind)) = IsRefusedFirst start (refusal.BadLine line kind)
IsEvent start end (fault.Trace refusal.InputTooLong) = IsRefusedFirst start refusal.InputTooLong
IsEvent start end (fault.Trace refusal.TooManyRequests) = IsRefusedFirst start refusal.TooManyRequests
IsEvent start end (fault.Trace refusal.ReadFault) = HasNewFault start.trace_faults end.trace_faults
IsEvent start end (fault.Trace refusal.NoMemory) = ⊥
IsEvent start end fault.CertReadFault = HasNewFault start.certificate_faults end.certificate_faults
IsEvent start end fault.NoMemory = Unit {0}

-- of a trace a source has lost no more than the requests need that the walk over it and these bytes of a certificate asks for
abbrev pub HasLostAsked : Format → Limits → Option (List ℕ) → Option (List ℕ) → Option (List ℕ) → Type 0
HasLostAsked format limits before after certificate = IfSome before (λ bytes. IfSome certificate (λ text. IfSome after (HasLostFor format limits (asked (traces.reading format limits bytes) text) bytes)))

-- the two sources have lost little beyond this line of the certificate: the certificate at most a buffer of bytes more, and the trace what the walk asks for, if their bytes are known
pub record IsNearLine (format : Format) (limits : Limits) (line : ℕ) (trace cert : Device) : Type 0 where
  pub certificate : IfSome cert.before (λ text. IfSome cert.after (λ left. length text ≤ length left + bytes_through line text + 65536))
  pub requests : HasLostAsked format limits trace.before trace.after cert.before

-- the source of the trace, before and after
abbrev pub trace_source : Inputs → Inputs → Device
trace_source start end = device start.trace end.trace start.trace_faults end.trace_faults

-- the source of the certificate, before and after
abbrev pub cert_source : Inputs → Inputs → Device
cert_source start end = device start.certificate end.certificate start.certificate_faults end.certificate_faults

-- if the certificate fails at a line, the sources have lost little beyond it; if the trace is refused, its source has lost little beyond what refuses it
abbrev pub IsNear : Inputs → Inputs → CheckFault → Type 0
IsNear start end (fault.Invalid line kind) = IsNearLine start.reader.format start.reader.limits line (trace_source start end) (cert_source start end)
IsNear start end (fault.Trace why) = HasLostThrough start.reader.format start.reader.limits (trace_source start end) why
IsNear start end fault.CertReadFault = Unit {0}
IsNear start end fault.NoMemory = Unit {0}

-- a reader keeps the fault that is answered
abbrev pub IsKept : Option TraceFault → Option CertFault → CheckFault → Type 0
IsKept reader cert (fault.Invalid line kind) = Unit {0}
IsKept reader cert (fault.Trace why) = reader ≡ Some why
IsKept reader cert fault.CertReadFault = cert ≡ Some text.ReadFault
IsKept reader cert fault.NoMemory = Unit {0}

-- a fault that is answered is kept, and no other: what the reader of a trace and that of a certificate keep after a check
abbrev pub KeepsAnswer : {A : Type 0} → Option TraceFault → Option CertFault → Result A CheckFault → Type 0
KeepsAnswer reader cert (Ok answer) = (reader ≡ None) × (cert ≡ None)
KeepsAnswer reader cert (Err why) = IsKept reader cert why × IfSome reader (λ fault. of_trace fault ≡ why) × IfSome cert (λ fault. of_text fault ≡ why)

-- no call of either source has failed
pub record IsCalm (start now : Inputs) : Type 0 where
  pub trace : now.trace_faults ≡ start.trace_faults
  pub certificate : now.certificate_faults ≡ start.certificate_faults

-- no read of either source failed, but one that is answered
abbrev pub IsCalmBut : Inputs → Inputs → CheckFault → Type 0
IsCalmBut start now why =
    ((why ≡ fault.Trace refusal.ReadFault) ⊎ (now.trace_faults ≡ start.trace_faults)) × ((why ≡ fault.CertReadFault) ⊎ (now.certificate_faults ≡ start.certificate_faults))

-- a yes: of some requests with their marks and some records, which are all that the two sources have, if their bytes are known, and what is noted of the requests is that of the reader
pub record IsPassed (start end : Inputs) (verdict : Verdict) : Type 0 where
  pub requests : Requests
  pub records : List Record
  pub yes : IsYes verdict.header requests.fills requests.objects records verdict
  pub trace : IfSome start.trace (λ bytes. IsWhole (traces.reading start.reader.format start.reader.limits bytes) requests end.reader.dropped)
  pub noted : IfSome start.trace (λ bytes. (traces.reading start.reader.format start.reader.limits bytes).seen.noted ≡ end.reader.seen.noted)
  pub certificate : IfSome start.certificate (λ text. certificates.reading text ≡ whole verdict.header records)
  pub walked : IsWalked start None
  pub trace_end : IfSome start.trace (λ _. end.trace ≡ Some [])
  pub certificate_end : IfSome start.certificate (λ _. end.certificate ≡ Some [])
  pub stage : end.cert.stage ≡ AtEnd
  pub calm : IsCalm start end

-- these are the first requests of the trace with their marks, and what is still to come follows them
pub record HasRequests (given : Requests) (start now : Inputs) (bytes : List ℕ) : Type 0 where
  pub rest : List ℕ
  pub stands_in : requests.known now.reader now.trace ≡ Some rest
  pub reading : traces.reading start.reader.format start.reader.limits bytes ≡ after given.objects given.fills (requests.to_come now.reader rest)
  pub begins : IsFresh start.reader
  pub gone : HasGiven given.objects given.fills start.reader now.reader bytes
  pub rest_is : rest ≡ bytes_after start.reader now.reader bytes

-- a reading after a header and these records
abbrev pub after_records : Header → List Record → certificates.Reading → certificates.Reading
after_records h records c = record { header = Some h; records = records ++ c.records; fault = c.fault }

-- these are the first records of the certificate, and what is still to come follows them
pub record HasRecords (h : Header) (records : List Record) (now : Inputs) (text : List ℕ) : Type 0 where
  pub stands_in : known now.cert.lines now.certificate ≡ Some (after_lines now.cert.lines.line text)
  pub reading : certificates.reading text ≡ after_records h records (lines.to_come now.cert (after_lines now.cert.lines.line text))
  pub consumed : now.cert.lines.consumed ≡ bytes_through now.cert.lines.line text

-- neither reader has answered a fault, and a record was read for each step
pub record IsInStep (now : Inputs) (checker : Summary) : Type 0 where
  pub trace_fault : now.reader.fault ≡ None
  pub cert_fault : now.cert.fault ≡ None
  pub stage : now.cert.stage ≡ InRecords
  pub line : now.cert.lines.line ≡ header_len checker.header + checker.sums.steps
  pub left : now.cert.left + checker.sums.steps ≡ checker.header.requests
  pub held : length now.cert.lines.held ≤ 65536
  pub some : (given : Requests) × (records : List Record) × AreMarked (is_marked now.reader.format) given × StandsForAll checker.header given records checker

-- the same, with some reader of a trace and its source
abbrev pub IsInSomeStep : (requests.Reader → Option (List ℕ) → ℕ → Inputs) → Summary → Type 0
IsInSomeStep now checker = (reader : requests.Reader) × (trace : Option (List ℕ)) × (faults : ℕ) × IsInStep (now reader trace faults) checker

-- these requests and records were read and passed
pub record HasChecked (start : Inputs) (h : Header) (given : Requests) (records : List Record) (now : Inputs) (checker : Summary) : Type 0 where
  pub stands : StandsForAll h given records checker
  pub marked : AreMarked (is_marked now.reader.format) given
  pub same_format : now.reader.format ≡ start.reader.format
  pub trace_read : IfSome start.trace (HasRequests given start now)
  pub records_read : IfSome start.certificate (HasRecords h records now)
  pub calm : IsCalm start now

-- the trace has no more requests
pub record HasCheckedAll (start : Inputs) (h : Header) (given : Requests) (records : List Record) (now : Inputs) (checker : Summary) : Type 0 where
  pub stands : StandsForAll h given records checker
  pub trace_read : IfSome start.trace (λ bytes. IsWhole (traces.reading start.reader.format start.reader.limits bytes) given now.reader.dropped)
  pub noted : IfSome start.trace (λ bytes. (traces.reading start.reader.format start.reader.limits bytes).seen.noted ≡ now.reader.seen.noted)
  pub trace_end : IfSome start.trace (λ _. now.trace ≡ Some [])
  pub records_read : IfSome start.certificate (HasRecords h records now)
  pub calm : IsCalm start now

-- how many bytes a reader of a certificate has taken from the source
abbrev pub taken : lines.Reader → ℕ
taken cert = cert.lines.consumed + length cert.lines.held

-- at most a buffer of bytes past this line was taken
abbrev pub IsTakenTo : ℕ → Inputs → Inputs → Type 0
IsTakenTo line start end = IfSome start.certificate (λ text. taken end.cert ≤ bytes_through line text + 65536)

-- the trace has lost no more than what is asked for
abbrev pub HasAsked : Inputs → Inputs → Type 0
HasAsked start end = HasLostAsked start.reader.format start.reader.limits start.trace end.trace start.certificate

-- what was taken of the certificate, and lost of the trace, if the certificate fails at a line; and lost of the trace, if it is refused
abbrev pub IsSparing : Inputs → Inputs → CheckFault → Type 0
IsSparing start end (fault.Invalid line kind) = IsTakenTo line start end × HasAsked start end
IsSparing start end (fault.Trace why) = HasLostThrough start.reader.format start.reader.limits (trace_source start end) why
IsSparing start end fault.CertReadFault = Unit {0}
IsSparing start end fault.NoMemory = Unit {0}

-- why the walk ends at a place
pub record IsStop (start end : Inputs) (why : CheckFault) : Type 0 where
  pub event : IsEvent start end why
  pub near : IsSparing start end why

-- the next check: of this request with the mark that the reader read last, and its record, or there is none more, or why the walk ends here
abbrev pub IsNextCheck : Inputs → Header → Requests → List Record → Inputs → Summary → Result (Option (Object × Record)) CheckFault → Type 0
IsNextCheck start h given records now checker (Ok (Some p)) = HasChecked start h (with_request given p.0 (last_mark now.reader)) (records ++ p.1 ∷ []) now checker
IsNextCheck start h given records now checker (Ok None) = HasCheckedAll start h given records now checker
IsNextCheck start h given records now checker (Err why) = IsStop start now why

-- whatever was read and passed before, the next check goes on from there
abbrev pub ChecksNext : Inputs → Summary → Inputs → Summary → Result (Option (Object × Record)) CheckFault → Type 0
ChecksNext old before new after result = (start : Inputs) (h : Header) (given : Requests) (records : List Record) → HasChecked start h given records old before → IsNextCheck start h given records new after result
