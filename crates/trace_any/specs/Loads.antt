-- What comes of reading all that a source has left.
use Rattle.std.specs.Prelude.{◌≡◌, ◌^◌, ◌-◌, [], Some, IfSome}
use Rattle.bound_io.specs.Devices.{Device}
use Rattle.cache_rules.specs.Stored.{Requests}
use Rattle.trace_any.specs.declared.fault.TraceFault.{TraceFault}
use Rattle.trace_any.specs.declared.format.Format.{Format}
use Rattle.trace_any.specs.declared.format.Limits.{Limits}
use Rattle.trace_any.specs.Readings.{reading, full_limits}
use Rattle.trace_any.specs.Readers.{IsWhole, Notes}

-- the most requests and bytes that are read in one pass
abbrev pub pass_limits : Limits
pass_limits = record { requests = 2 ^ 32 - 1; bytes = 2 ^ 44 }

-- all that the source had left was read within these limits, and is a trace of these requests, beside which this is told, if its bytes are known
pub record IsRead (limits : Limits) (format : Format) (source : Device) (requests : Requests) (notes : Notes) : Type 0 where
  pub read : IfSome source.before (λ bytes. IsWhole (reading format limits bytes) requests notes.dropped)
  pub noted : IfSome source.before (λ bytes. (reading format limits bytes).seen.noted ≡ notes.noted)
  pub nothing_left : IfSome source.before (λ bytes. source.after ≡ Some [])

-- the same within the limits of a trace in memory
abbrev pub IsLoaded : Format → Device → Requests → Notes → Type 0
IsLoaded format source requests notes = IsRead full_limits format source requests notes

-- what the source had left is refused so within these limits, if its bytes are known
abbrev pub IsRefusedWithin : Limits → Format → Device → TraceFault → Type 0
IsRefusedWithin limits format source fault = IfSome source.before (λ bytes. (reading format limits bytes).refused ≡ Some fault)

-- the same within the limits of a trace in memory
abbrev pub IsRefused : Format → Device → TraceFault → Type 0
IsRefused format source fault = IsRefusedWithin full_limits format source fault
