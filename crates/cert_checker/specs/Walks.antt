-- The walk of a check: what comes first, as the requests and the lines of the certificate are read side by side.
use Rattle.std.specs.Prelude.{ℕ, ◌+◌, Bool, List, [], ◌∷◌, ◌++◌, length, map, ◌==◌, nat_lt, if◌then◌else◌, None, Some}
use Rattle.std.specs.declared.option.Option.{Option}
use Rattle.std.specs.Option.{is_some}
use Rattle.std.specs.List.{position_or_len}
use Rattle.cache_model.specs.declared.objects.Object.{Object}
use Rattle.cache_model.specs.declared.certificates.Header.{Header}
use Rattle.cache_model.specs.Objects.{numbers_of}
use Rattle.cache_model.specs.Texts.{header_len}
use Rattle.trace_any.specs.declared.fault.TraceFault.{TraceFault}
use Rattle.trace_any.specs.Readings as traces
use Rattle.cert_format.specs.declared.fault.TextKind.{TextKind}
use Rattle.cert_format.specs.declared.fault.TextKind.TheVariants as text
use Rattle.cert_format.specs.declared.fault.CertFault.{CertFault}
use Rattle.cert_format.specs.declared.fault.CertFault.TheVariants as cert
use Rattle.cert_checker.specs.declared.invalid.InvalidKind.{InvalidKind}
use Rattle.cert_checker.specs.declared.invalid.InvalidKind.TheVariants.{Shape, Number, Range, TooLong, Truncated, Trailing, RequestCount}
use Rattle.cert_format.specs.Readings as certificates
use Rattle.cert_checker.specs.Rules.{found, first_some, record_fault, end_fault}

-- what ends a walk: the certificate fails at a line, or the trace is refused
pub data Event : Type 0 where
  Invalid : ℕ → InvalidKind → Event
  Refused : TraceFault → Event

-- the kind of a fault of a text
abbrev pub text_kind : TextKind → InvalidKind
text_kind text.Shape = Shape
text_kind text.Number = Number
text_kind text.Range = Range
text_kind text.TooLong = TooLong

-- the event of a fault of the certificate's text, if there is one
abbrev pub text_event : Option CertFault → Option Event
text_event None = None
text_event (Some (cert.BadText line kind)) = Some (Invalid line (text_kind kind))
text_event (Some (cert.Truncated line)) = Some (Invalid line Truncated)
text_event (Some (cert.Trailing line)) = Some (Invalid line Trailing)
text_event (Some cert.ReadFault) = None

-- a kind at its line, if there is one
abbrev pub at_line : ℕ → Option InvalidKind → Option Event
at_line line None = None
at_line line (Some kind) = Some (Invalid line kind)

-- the event of a refusal of the trace, if there is one
abbrev pub refusal_event : Option TraceFault → Option Event
refusal_event None = None
refusal_event (Some fault) = Some (Refused fault)

-- the fault of the certificate's text, if it comes after that number of records
abbrev pub text_after : certificates.Reading → ℕ → Option Event
text_after c t = if length c.records == t then text_event c.fault else None

-- the events at request t, by these marks: the certificate has no record for it, or its line is not read, or fails a rule
abbrev pub events_at : Header → List Bool → certificates.Reading → List Object → ℕ → List (Option Event)
events_at h fills c trace t =
    at_line (header_len h + t) (found (t == h.requests) (RequestCount h.requests (t + 1)))
    ∷ text_after c t
    ∷ at_line (header_len h + 1 + t) (record_fault h fills trace c.records t)
    ∷ []

-- the events after the last request: the trace is refused, or has too few requests, or the end is not read, or fails a rule
abbrev pub last_events : Header → certificates.Reading → traces.Reading → List (Option Event)
last_events h c trace =
    let n = length trace.requests in
    refusal_event trace.refused
    ∷ at_line (header_len h + n) (found (nat_lt n h.requests) (RequestCount h.requests n))
    ∷ text_after c n
    ∷ at_line (header_len h + 1 + n) (end_fault h trace.fills trace.requests c.records)
    ∷ []

-- the events after the header, by request
abbrev pub events_by_request : Header → certificates.Reading → traces.Reading → List (Option Event)
events_by_request h c trace = map (λ t. first_some (events_at h trace.fills c trace.requests t)) (numbers_of trace.requests)

-- the first event of the two readings, if the certificate has this header or none
abbrev pub walk_under : Option Header → traces.Reading → certificates.Reading → Option Event
walk_under None trace c = text_event c.fault
walk_under (Some h) trace c = first_some (events_by_request h c trace ++ last_events h c trace)

-- the first event of the walk over the reading of a trace and the bytes of a certificate, if there is one
abbrev pub walk : traces.Reading → List ℕ → Option Event
walk trace bytes = let c = certificates.reading bytes in walk_under c.header trace c

-- how many requests the walk asks for: none before the header is read, and then one more than the requests that give no event
abbrev pub asked_under : Option Header → traces.Reading → certificates.Reading → ℕ
asked_under None trace c = 0
asked_under (Some h) trace c = position_or_len is_some (events_by_request h c trace) + 1

-- how many requests the walk over the reading of a trace and the bytes of a certificate asks for
abbrev pub asked : traces.Reading → List ℕ → ℕ
asked trace bytes = let c = certificates.reading bytes in asked_under c.header trace c
