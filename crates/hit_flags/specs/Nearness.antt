-- How far the two sources are read.
use Rattle.std.specs.Prelude.{◌≡◌, ℕ, ◌+◌, ◌-◌, ◌≤◌, max, List, length, take, drop, Some, IfSome}
use Rattle.std.specs.declared.option.Option.{Option}
use Rattle.bound_io.specs.Devices.{Device}
use Rattle.bound_io.specs.Positions.{Position, known}
use Rattle.trace_any.specs.declared.fault.TraceFault.{TraceFault}
use Rattle.trace_any.specs.declared.format.Format.{Format}
use Rattle.trace_any.specs.FirstLines.{HasLostFor, HasLostThrough, bytes_of}
use Rattle.trace_any.specs.Readings.{full_limits, lines_of, reading}
use Rattle.hit_flags.specs.declared.fault.FlagFault.{FlagFault}
use Rattle.hit_flags.specs.declared.fault.FlagFault.TheVariants.{Trace, NotFlag, Count, ReadFault, NoMemory}

-- a reader has given the first of these bytes' lines, and stands in the bytes after them
pub record StandsPast (old new : Position) (bytes : List ℕ) (after : Option (List ℕ)) : Type 0 where
  pub further : old.line ≤ new.line
  pub consumed : new.consumed ≡ old.consumed + bytes_of (take (new.line - old.line) (lines_of bytes))
  pub rest : after ≡ Some (drop (new.consumed - old.consumed) bytes)
  pub lines : lines_of (drop (new.consumed - old.consumed) bytes) ≡ drop (new.line - old.line) (lines_of bytes)

-- a reader of flags gives one line at most, and holds no more than its buffer does
pub record GoesLine (old new : Position) (hits : Device) : Type 0 where
  pub most : new.line ≤ old.line + 1
  pub held : length new.held ≤ 65536
  pub past : IfSome (known old hits.before) (λ bytes. StandsPast old new bytes (known new hits.after))

-- the flags end or fail at this turn, of which the first is 1
abbrev pub IsAtTurn : ℕ → FlagFault → Type 0
IsAtTurn turn (NotFlag line) = line ≡ turn
IsAtTurn turn (Count flags requests) = max flags requests ≡ turn
IsAtTurn turn ReadFault = Unit {0}
IsAtTurn turn (Trace fault) = ⊥
IsAtTurn turn NoMemory = ⊥

-- the flags have lost at most this many first lines, and a buffer of bytes
abbrev pub HaveLostLines : ℕ → Device → Type 0
HaveLostLines count hits = IfSome hits.before (λ text. IfSome hits.after (λ left. length text ≤ length left + bytes_of (take count (lines_of text)) + 65536))

-- the two sources have lost little beyond this turn: the flags at most a buffer of bytes more, and the trace what so many requests need, if their bytes are known
pub record IsNearTurn (format : Format) (turn : ℕ) (trace hits : Device) : Type 0 where
  pub requests : IfSome trace.before (λ bytes. IfSome trace.after (HasLostFor format full_limits turn bytes))
  pub flags : HaveLostLines turn hits

-- the two sources have lost little beyond a fault of the trace: the flags at most a line for each request of the trace, and a buffer of bytes
pub record IsNearFault (format : Format) (trace hits : Device) (fault : TraceFault) : Type 0 where
  pub lines : HasLostThrough format full_limits trace fault
  pub flags : IfSome trace.before (λ bytes. HaveLostLines (length (reading format full_limits bytes).requests) hits)

-- the two sources have lost little beyond what stops the reading
abbrev pub AreNear : Format → Device → Device → FlagFault → Type 0
AreNear format trace hits (NotFlag line) = IsNearTurn format line trace hits
AreNear format trace hits (Count flags requests) = IsNearTurn format (max flags requests) trace hits
AreNear format trace hits (Trace fault) = IsNearFault format trace hits fault
AreNear format trace hits ReadFault = Unit {0}
AreNear format trace hits NoMemory = Unit {0}
