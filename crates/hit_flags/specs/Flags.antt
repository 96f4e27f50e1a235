-- The lines of the flags, and the turns in which they and the requests are read.
use Rattle.std.specs.Prelude.{ℕ, ◌+◌, Bool, true, false, ◌==◌, List, [], ◌∷◌, map, None, Some, if◌then◌else◌}
use Rattle.std.specs.declared.option.Option.{Option}
use Rattle.cache_model.specs.declared.objects.Object.{Object}
use Rattle.trace_any.specs.declared.fault.TraceFault.{TraceFault}
use Rattle.trace_any.specs.Readings.{Reading, lines_of}
use Rattle.hit_flags.specs.declared.fault.FlagFault.{FlagFault}
use Rattle.hit_flags.specs.declared.fault.FlagFault.TheVariants.{Trace, NotFlag, Count}

-- the flag of a text that is one byte, `1` for a hit and `0` for none
abbrev pub flag_of : List ℕ → Option Bool
flag_of (byte ∷ []) = if byte == 49 then Some true else (if byte == 48 then Some false else None)
flag_of [] = None
flag_of (byte ∷ next ∷ more) = None

-- the flag of each line, if it has one
abbrev pub flags_in : List ℕ → List (Option Bool)
flags_in bytes = map (λ line. flag_of line.0) (lines_of bytes)

-- the number of the first line without a flag, if there is one and this is the number of the first line
abbrev pub first_without : List (Option Bool) → ℕ → Option ℕ
first_without [] line = None
first_without (None ∷ more) line = Some line
first_without (Some flag ∷ more) line = first_without more (line + 1)

-- what stops the reading of requests and flags by turns, a request first, after this many of both
abbrev pub by_turns : List Object → Option TraceFault → List (Option Bool) → ℕ → Option FlagFault
by_turns [] (Some fault) flags both = Some (Trace fault)
by_turns [] None [] both = None
by_turns [] None (Some flag ∷ more) both = Some (Count (both + 1) both)
by_turns [] None (None ∷ more) both = Some (NotFlag (both + 1))
by_turns (x ∷ requests) refused [] both = Some (Count both (both + 1))
by_turns (x ∷ requests) refused (None ∷ more) both = Some (NotFlag (both + 1))
by_turns (x ∷ requests) refused (Some flag ∷ more) both = by_turns requests refused more (both + 1)

-- what stops the reading of a trace and the flags beside it, if anything does
abbrev pub stop_of : Reading → List (Option Bool) → Option FlagFault
stop_of trace flags = by_turns trace.requests trace.refused flags 0
