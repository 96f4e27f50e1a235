-- A check of all that two sources have left, by readers that are made for it.
use Rattle.std.specs.Prelude.{◌≡◌, ℕ, List, Ok}
use Rattle.bound_io.specs.Devices.{Device}
use Rattle.cache_rules.specs.Stored.{Making}
use Rattle.freshness.specs.Seen.{Staleness}
use Rattle.cache_model.specs.declared.certificates.Record.{Record}
use Rattle.trace_any.specs.declared.format.Format.{Format}
use Rattle.trace_any.specs.Readings.{full_limits}
use Rattle.trace_any.specs.Readers as requests
use Rattle.cert_format.specs.Readers as lines
use Rattle.cert_checker.specs.declared.verdict.Verdict.{Verdict}
use Rattle.cert_checker.specs.declared.walking.CheckFault.{CheckFault}
use Rattle.cert_checker.specs.Checks.{Inputs, IsCalmBut, IsEvent, IsNear, IsPassed, inputs}
use Rattle.cert_checker.specs.Keeping.{Checked, HasKept, IsCheckEnd}

-- where new readers stand, over the sources before
abbrev pub first_inputs : Format → Device → Device → Inputs
first_inputs format trace cert = inputs (requests.fresh format full_limits) trace.before trace.faults_before lines.fresh cert.before cert.faults_before

-- where these readers stand, over the sources after
abbrev pub last_inputs : requests.Reader → lines.Reader → Device → Device → Inputs
last_inputs reader records trace cert = inputs reader trace.after trace.faults_after records cert.after cert.faults_after

-- a yes of all that the sources had left, and how many lines of the trace were dropped
pub record Passes (format : Format) (trace cert : Device) (verdict : Verdict) (dropped : ℕ) : Type 0 where
  pub reader : requests.Reader
  pub records : lines.Reader
  pub dropped_lines : reader.dropped ≡ dropped
  pub passed : IsPassed (first_inputs format trace cert) (last_inputs reader records trace cert) verdict

-- the same, of the requests and the records that are kept, and what is noted of the requests
pub record Keeps (format : Format) (trace cert : Device) (kept : Checked) (dropped : ℕ) (noted : Staleness) : Type 0 where
  pub reader : requests.Reader
  pub records : lines.Reader
  pub dropped_lines : reader.dropped ≡ dropped
  pub noted_are : reader.seen.noted ≡ noted
  pub kept_all : HasKept (first_inputs format trace cert) (last_inputs reader records trace cert) kept

-- why there is no yes, and how little was read then
pub record Fails (format : Format) (trace cert : Device) (why : CheckFault) : Type 0 where
  pub reader : requests.Reader
  pub records : lines.Reader
  pub event : IsEvent (first_inputs format trace cert) (last_inputs reader records trace cert) why
  pub near : IsNear (first_inputs format trace cert) (last_inputs reader records trace cert) why
  pub calm : IsCalmBut (first_inputs format trace cert) (last_inputs reader records trace cert) why

-- a yes of the requests and the records that a keeper has, how many lines of the trace were dropped, and what is noted of its requests
pub record Ends (has : Making → List Record → Type 0) (format : Format) (trace cert : Device) (verdict : Verdict) (dropped : ℕ) (noted : Staleness) : Type 0 where
  pub reader : requests.Reader
  pub records : lines.Reader
  pub dropped_lines : reader.dropped ≡ dropped
  pub noted_are : reader.seen.noted ≡ noted
  pub ended : IsCheckEnd has (first_inputs format trace cert) (last_inputs reader records trace cert) (Ok verdict)
