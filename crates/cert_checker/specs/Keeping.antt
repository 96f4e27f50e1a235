-- A check that keeps what it reads.
use Rattle.std.specs.Prelude.{◌≡◌, ℕ, List, [], Result, Ok, Err}
use Rattle.std.specs.declared.option.Option.{Option}
use Rattle.cache_model.specs.declared.certificates.Header.{Header}
use Rattle.cache_model.specs.declared.certificates.Record.{Record}
use Rattle.cache_rules.specs.Stored.{Making, Requests}
use Rattle.trace_any.specs.declared.format.Format.{Format}
use Rattle.trace_any.specs.Readers as requests
use Rattle.trace_any.specs.Readings.{is_marked}
use Rattle.cert_checker.specs.declared.verdict.Verdict.{Verdict}
use Rattle.cert_checker.specs.declared.walking.CheckFault.{CheckFault}
use Rattle.cert_checker.specs.Checks.{HasCheckedAll, Inputs, IsPassed, IsStop}
use Rattle.cert_checker.specs.Summaries.{Summary}

-- a yes, with the requests, their marks and the records that it was said of
pub record Checked : Type 0 where
  pub verdict : Verdict
  pub trace : Requests
  pub records : List Record

-- a yes, of the requests and the records that are kept
pub record HasKept (start end : Inputs) (kept : Checked) : Type 0 where
  pub passed : IsPassed start end kept.verdict
  pub trace : kept.trace ≡ passed.requests
  pub records : kept.records ≡ passed.records

-- the end of a walk over these requests and records: a yes of them, or why there is none
abbrev pub IsEnd : Inputs → Inputs → Requests → List Record → Result Verdict CheckFault → Type 0
IsEnd start end trace records (Ok verdict) = HasKept start end (record { verdict = verdict; trace = trace; records = records })
IsEnd start end trace records (Err why) = IsStop start end why

-- whatever was read and passed before, and whatever the trace was read from, the walk ends there
abbrev pub ChecksLast : (requests.Reader → Option (List ℕ) → ℕ → Inputs) → Summary → (requests.Reader → Option (List ℕ) → ℕ → Inputs) → Result Verdict CheckFault → Type 0
ChecksLast old checker new result = (start : Inputs) (reader : requests.Reader) (left : Option (List ℕ)) (faults : ℕ) (h : Header) (trace : Requests) (records : List Record)
    → HasCheckedAll start h trace records (old reader left faults) checker → IsEnd start (new reader left faults) trace records result

-- requests so far of a trace of this form, which keep their marks if the form has marks
abbrev pub of_form : Format → Requests → Making
of_form format given = record { requests = given; marks = is_marked format }

-- no request yet
abbrev pub no_requests : Format → Making
no_requests format = of_form format (record { objects = []; fills = [] })

-- the end of a check: a yes of the requests and the records that a keeper has, or why there is none
abbrev pub IsCheckEnd : (Making → List Record → Type 0) → Inputs → Inputs → Result Verdict CheckFault → Type 0
IsCheckEnd has start end (Ok verdict) = (trace : Requests) × (records : List Record) × has (of_form start.reader.format trace) records × IsEnd start end trace records (Ok verdict)
IsCheckEnd has start end (Err why) = IsStop start end why
