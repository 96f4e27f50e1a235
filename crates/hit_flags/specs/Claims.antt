-- What comes of reading a trace and the flags beside it.
use Rattle.std.specs.Prelude.{◌≡◌, ◌⊎◌, ℕ, ◌+◌, min, Bool, List, [], length, map, Some, IfSome}
use Rattle.bit_list.specs.Bits.{bits_of}
use Rattle.bound_io.specs.Devices.{Device, HasFailed}
use Rattle.cache_rules.specs.Stored.{Requests}
use Rattle.trace_any.specs.declared.fault.TraceFault.TheVariants as of_trace
use Rattle.trace_any.specs.declared.format.Format.{Format}
use Rattle.trace_any.specs.Readings.{reading, full_limits}
use Rattle.trace_any.specs.Loads.{IsLoaded, IsRefused}
use Rattle.trace_any.specs.Readers.{Notes}
use Rattle.hit_flags.specs.declared.claims.Claims.{Claims}
use Rattle.hit_flags.specs.declared.fault.FlagFault.{FlagFault}
use Rattle.hit_flags.specs.declared.fault.FlagFault.TheVariants.{Trace, NotFlag, Count, ReadFault, NoMemory}
use Rattle.hit_flags.specs.Flags.{first_without, flags_in, stop_of}

-- the bytes are known and were read to their end, and each line of them has the flag of a request
pub record AreFlags (hits : Device) (flags : List Bool) : Type 0 where
  pub lines : IfSome hits.before (λ bytes. flags_in bytes ≡ map (λ flag. Some flag) flags)
  pub nothing_left : IfSome hits.before (λ _. hits.after ≡ Some [])

-- all that the two sources had left was read: a trace, beside which this is told, and a flag for each of its requests
pub record AreRead (format : Format) (trace hits : Device) (requests : Requests) (notes : Notes) (flags : List Bool) : Type 0 where
  pub loaded : IsLoaded format trace requests notes
  pub flags_are : AreFlags hits flags
  pub as_many : length flags ≡ length requests.objects

-- the same of claims, which have them all
abbrev pub ReadsClaims : Format → Device → Device → Claims → Type 0
ReadsClaims format trace hits c = AreRead format trace hits c.trace c.notes (bits_of c.flags)

-- it stops the reading by turns of all that the two sources had left, if the bytes of both are known
abbrev pub StopsBoth : Format → Device → Device → FlagFault → Type 0
StopsBoth format trace hits fault =
    IfSome trace.before (λ bytes. IfSome hits.before (λ text. stop_of (reading format full_limits bytes) (flags_in text) ≡ Some fault))

-- what each of the two tells alone of what stops the reading, if its bytes are known: the trace that it is refused so, the flags their first line without one, and both how many they have, up to one more than the other
abbrev pub IsTold : Format → Device → Device → FlagFault → Type 0
IsTold format trace hits (Trace fault) = IsRefused format trace fault
IsTold format trace hits (NotFlag line) = IfSome hits.before (λ text. first_without (flags_in text) 1 ≡ Some line)
IsTold format trace hits (Count flags requests) =
    IfSome hits.before (λ text. min (length (flags_in text)) (requests + 1) ≡ flags) × IfSome trace.before (λ bytes. min (length (reading format full_limits bytes).requests) (flags + 1) ≡ requests)
IsTold format trace hits ReadFault = Unit {0}
IsTold format trace hits NoMemory = Unit {0}

-- this stops the reading of all that the two sources had left, as they tell together, and each alone
pub record IsStop (format : Format) (trace hits : Device) (fault : FlagFault) : Type 0 where
  pub both : StopsBoth format trace hits fault
  pub alone : IsTold format trace hits fault

-- why no claims are read: this stops the reading, or a source has a new fault; running out of memory is free
abbrev pub AreUnread : Format → Device → Device → FlagFault → Type 0
AreUnread format trace hits (Trace (of_trace.BadLine line kind)) = IsStop format trace hits (Trace (of_trace.BadLine line kind))
AreUnread format trace hits (Trace of_trace.InputTooLong) = IsStop format trace hits (Trace of_trace.InputTooLong)
AreUnread format trace hits (Trace of_trace.TooManyRequests) = IsStop format trace hits (Trace of_trace.TooManyRequests)
AreUnread format trace hits (Trace of_trace.ReadFault) = HasFailed trace
AreUnread format trace hits (Trace of_trace.NoMemory) = Unit {0}
AreUnread format trace hits (NotFlag line) = IsStop format trace hits (NotFlag line)
AreUnread format trace hits (Count flags requests) = IsStop format trace hits (Count flags requests)
AreUnread format trace hits ReadFault = HasFailed hits
AreUnread format trace hits NoMemory = Unit {0}

-- no read of either source failed, but one that is answered
abbrev pub AreCalmBut : Device → Device → FlagFault → Type 0
AreCalmBut trace hits fault = ((fault ≡ Trace of_trace.ReadFault) ⊎ (trace.faults_after ≡ trace.faults_before)) × ((fault ≡ ReadFault) ⊎ (hits.faults_after ≡ hits.faults_before))
