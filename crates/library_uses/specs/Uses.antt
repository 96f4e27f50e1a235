-- What the uses of the library show.
use Rattle.std.specs.Prelude.{◌≡◌, ℕ, ◌≤◌, List, None, Some}
use Rattle.cache_model.specs.declared.objects.Object.{Object}
use Rattle.cache_model.specs.declared.objects.Objective.TheVariants.{Object as Hits}
use Rattle.cache_model.specs.declared.certificates.Header.{Header}
use Rattle.cache_model.specs.declared.certificates.Record.{Record}
use Rattle.cache_model.specs.Certificates.{IsValid}
use Rattle.cache_model.specs.Claim.{BoundsEveryPolicy, IsAllowed, score, terms_from}
use Rattle.cache_model.specs.Texts.{cert_text}
use Rattle.cache_rules.specs.Stored.{Requests}
use Rattle.trace_any.specs.Readings.{Reading, full_limits, reading, webcache_form}
use Rattle.trace_any.specs.declared.fault.TraceFault.{TraceFault}
use Rattle.trace_any.specs.declared.fault.TraceFault.TheVariants as refusal
use Rattle.cert_checker.specs.declared.walking.CheckFault.{CheckFault}
use Rattle.cert_checker.specs.declared.walking.CheckFault.TheVariants as fault
use Rattle.cert_checker.specs.Walks.{Invalid, Refused, walk}

-- the reading of a text in the form webcache, to its end or to the first line that is refused
abbrev pub reading_of : List ℕ → Reading
reading_of text = reading webcache_form full_limits text

-- no line of the text is refused, and these are its requests
pub record IsTraceOf (text : List ℕ) (trace : Requests) : Type 0 where
  pub none_refused : (reading_of text).refused ≡ None
  pub requests : trace.objects ≡ (reading_of text).requests
  pub marks : trace.fills ≡ (reading_of text).fills

-- the text is refused so; that memory is out says nothing of it
abbrev pub IsRefused : List ℕ → TraceFault → Type 0
IsRefused text refusal.NoMemory = Unit {0}
IsRefused text why = (reading_of text).refused ≡ Some why

-- no contents that the rules allow at the capacity hit more often than so
abbrev pub NoneHitsMore : Requests → ℕ → ℕ → Type 0
NoneHitsMore trace capacity most =
    (contents : List (List Object)) → IsAllowed capacity trace.objects contents → score (terms_from Hits capacity 0 trace.fills) trace.objects contents ≤ most

-- no line of the trace is refused, and the text is that of a certificate which is valid for it, with this header; so no policy scores more than its upper bound
pub record IsCertified (trace text : List ℕ) (header : Header) : Type 0 where
  pub none_refused : (reading_of trace).refused ≡ None
  pub records : List Record
  pub text_is : text ≡ cert_text header records
  pub valid : IsValid (reading_of trace).requests (reading_of trace).fills header records
  pub bounds : BoundsEveryPolicy (reading_of trace).requests (reading_of trace).fills header

-- what comes first as both are read side by side: a line of the certificate fails a rule, or the trace is refused; that memory is out says nothing of them
abbrev pub StopsAt : List ℕ → List ℕ → CheckFault → Type 0
StopsAt trace text (fault.Invalid line kind) = walk (reading_of trace) text ≡ Some (Invalid line kind)
StopsAt trace text (fault.Trace why) = walk (reading_of trace) text ≡ Some (Refused why)
StopsAt trace text fault.CertReadFault = ⊥
StopsAt trace text fault.NoMemory = Unit {0}

-- no certificate that is valid for the trace has the text, unless memory was out
abbrev pub IsUncertified : List ℕ → List ℕ → CheckFault → Type 0
IsUncertified trace text fault.NoMemory = Unit {0}
IsUncertified trace text why = (header : Header) → IsCertified trace text header → ⊥
