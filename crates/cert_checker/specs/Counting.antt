-- How many requests of a trace count.
use Rattle.std.specs.Prelude.{◌≡◌}
use Rattle.bound_io.specs.Devices.{Device}
use Rattle.trace_any.specs.declared.format.Format.{Format}
use Rattle.trace_any.specs.Counts.{counted_in, stale_in}
use Rattle.cert_checker.specs.declared.counting.Passed.{Passed}
use Rattle.cert_checker.specs.Whole.{Passes}

-- a yes of all that the sources had left, with how many of the requests count from the warm-up of the certificate on, how many had a time below the clock before them, and how many were stale
pub record PassesCounted (format : Format) (trace cert : Device) (p : Passed) : Type 0 where
  pub passes : Passes format trace cert p.verdict p.dropped
  pub counted : p.counted ≡ counted_in format p.verdict.header.warmup passes.passed.requests passes.reader.seen.noted
  pub late : p.late ≡ passes.reader.seen.noted.late
  pub stale : p.stale ≡ stale_in format passes.passed.requests passes.reader.seen.noted
