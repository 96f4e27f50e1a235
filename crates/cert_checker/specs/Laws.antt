-- What is proved of the rules and of the walk: a certificate passes them exactly if it is valid.
use Rattle.std.specs.Prelude.{◌≡◌, ◌↔◌, ℕ, ◌<◌, Bool, List, length, None}
use Rattle.cache_model.specs.declared.objects.Object.{Object}
use Rattle.cache_model.specs.declared.certificates.Header.{Header}
use Rattle.cache_model.specs.declared.certificates.Record.{Record}
use Rattle.cache_model.specs.Certificates.{IsCertificate, IsValid}
use Rattle.cache_model.specs.Texts.{cert_text}
use Rattle.trace_any.specs.Readings as traces
use Rattle.cert_checker.specs.Rules.{record_fault, end_fault}
use Rattle.cert_checker.specs.Walks.{walk}

-- no record fails a rule, nor does the end
pub record IsFaultless (h : Header) (fills : List Bool) (trace : List Object) (records : List Record) : Type 0 where
  pub no_record : (t : ℕ) → t < length trace → record_fault h fills trace records t ≡ None
  pub no_end : end_fault h fills trace records ≡ None

-- a certificate of as many records as the trace has requests is valid exactly if it has no fault
abbrev pub FaultlessIsValid : Type 0
FaultlessIsValid =
    (h : Header) (fills : List Bool) (trace : List Object) (records : List Record)
    → IsCertificate h records → h.requests ≡ length trace
    → IsFaultless h fills trace records ↔ IsValid trace fills h records

-- a trace that is not refused and some bytes pass the whole walk exactly if the bytes are the text of a valid certificate
abbrev pub PassingIsValid : Type 0
PassingIsValid =
    (trace : traces.Reading) (bytes : List ℕ)
    → trace.refused ≡ None
    → (walk trace bytes ≡ None) ↔ ((h : Header) × (records : List Record) × (bytes ≡ cert_text h records) × IsValid trace.requests trace.fills h records)
