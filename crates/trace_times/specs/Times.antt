-- The times of the requests of a trace.
use Rattle.std.specs.Prelude.{◌≡◌, ℕ, List, IfSome}
use Rattle.std.specs.declared.option.Option.{Option}
use Rattle.trace_any.specs.declared.format.Format.{Format}
use Rattle.trace_any.specs.Readings.{full_limits, reading}

-- these are the times of the requests of all that a source had left, if its bytes are known
abbrev pub AreTimes : Format → Option (List ℕ) → List ℕ → Type 0
AreTimes format left times = IfSome left (λ bytes. (reading format full_limits bytes).seen.times ≡ times)
