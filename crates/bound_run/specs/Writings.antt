-- What is written of a run: its report, and the certificate before it.
use Rattle.std.specs.Prelude.{ℕ, List}
use Rattle.bound_io.specs.Devices.{Device, Gets, GetsAll, GetsLess}
use Rattle.bound_report.specs.declared.refusal.Refusal.TheVariants as refusal
use Rattle.bound_report.specs.Refusals.{refusal_line}
use Rattle.bound_run.specs.Statuses.{Ending, done, refused, unreported}

-- the report is written, or less of it where it failed
abbrev pub WritesReport : Device → List ℕ → Ending → Type 0
WritesReport report text done = GetsAll report text
WritesReport report text unreported = GetsLess report text
WritesReport report text (refused r) = ⊥

-- the certificate is written and then the report, or less of the one that failed
abbrev pub WritesOut : Device → Device → List ℕ → List ℕ → Ending → Type 0
WritesOut report made cert text (refused refusal.MadeFault) = GetsLess made cert × Gets report (refusal_line refusal.MadeFault)
WritesOut report made cert text ending = GetsAll made cert × WritesReport report text ending
