-- How the next flag is read.
use Rattle.std.specs.Prelude.{◌≡◌, ℕ, ◌+◌, ◌*◌, ◌≤◌, ◌^◌, Bool, List, [], ◌∷◌, Result, Ok, Err, None, Some, IfSome}
use Rattle.std.specs.declared.option.Option.{Option}
use Rattle.bound_io.specs.Causes.{HasNewFault}
use Rattle.bound_io.specs.Devices.{Device}
use Rattle.bound_io.specs.Positions.{Position}
pub use Rattle.bound_io.specs.Positions.{known}
use Rattle.cache_model.specs.declared.objects.Object.{Object}
use Rattle.trace_any.specs.declared.fault.TraceFault.{TraceFault}
use Rattle.hit_flags.specs.declared.fault.FlagFault.{FlagFault}
use Rattle.hit_flags.specs.declared.fault.FlagFault.TheVariants.{Trace, NotFlag, Count, ReadFault, NoMemory}
use Rattle.hit_flags.specs.Flags.{by_turns, flags_in}

-- where a reader of flags stands before it has read anything
abbrev pub nothing_read : Position
nothing_read = record { limit = 2 ^ 36; consumed = 0; line = 0; held = []; fault = None }

-- a reader of flags has its whole limit and has answered no fault
abbrev pub IsGoing : Position → Type 0
IsGoing at = (at.limit ≡ 2 ^ 36) × (at.fault ≡ None)

-- the lines so far have at most two bytes each, as those of flags
abbrev pub AreShort : Position → Type 0
AreShort at = at.consumed ≤ 2 * at.line

-- the flags in these bytes are this one, of a line of at most two bytes, and those in the bytes that are known afterwards
pub record Gives (flag : Bool) (old new : Position) (bytes : List ℕ) (after : Option (List ℕ)) : Type 0 where
  pub rest : List ℕ
  pub after_is : after ≡ Some rest
  pub flags : flags_in bytes ≡ Some flag ∷ flags_in rest
  pub short : new.consumed ≤ old.consumed + 2

-- the same of the bytes that a reader stands in, by the source before the call and after it
abbrev pub GivesFlag : Position → Position → Device → Bool → Type 0
GivesFlag old new hits flag = IfSome (known old hits.before) (λ bytes. Gives flag old new bytes (known new hits.after))

-- no byte is left, before the call and after it
abbrev pub IsAtItsEnd : Position → Position → Device → Type 0
IsAtItsEnd old new hits = IfSome (known old hits.before) (λ bytes. (bytes ≡ []) × (known new hits.after ≡ Some []))

-- one line more was given
abbrev pub IsNextLine : Position → Position → Type 0
IsNextLine old new = (new.line ≡ old.line + 1) × IsGoing new

-- the first line has no flag
abbrev pub IsNoFlag : Position → Option (List ℕ) → ℕ → Type 0
IsNoFlag old before line = (line ≡ old.line + 1) × (AreShort old → IfSome before (λ bytes. (more : List (Option Bool)) × (flags_in bytes ≡ None ∷ more)))

-- how the next flag is read: it is that of the first line, which is gone afterwards; there is none only if no byte is left
abbrev pub NextFlag : Position → Position → Option (List ℕ) → Option (List ℕ) → ℕ → ℕ → Result (Option Bool) FlagFault → Type 0
NextFlag old new before after faults_before faults_after (Ok (Some flag)) = IsNextLine old new × IfSome before (λ bytes. Gives flag old new bytes after)
NextFlag old new before after faults_before faults_after (Ok None) = IfSome before (λ bytes. (bytes ≡ []) × (after ≡ Some []))
NextFlag old new before after faults_before faults_after (Err (NotFlag line)) = IsNoFlag old before line
NextFlag old new before after faults_before faults_after (Err ReadFault) = HasNewFault faults_before faults_after
NextFlag old new before after faults_before faults_after (Err (Trace fault)) = ⊥
NextFlag old new before after faults_before faults_after (Err (Count flags requests)) = ⊥
NextFlag old new before after faults_before faults_after (Err NoMemory) = ⊥

-- the same by the source before the call and after it
abbrev pub ReadsFlag : Position → Position → Device → Result (Option Bool) FlagFault → Type 0
ReadsFlag old new hits result = NextFlag old new (known old hits.before) (known new hits.after) hits.faults_before hits.faults_after result

-- if it counts flags and requests, it is these numbers of them
abbrev pub IsCount : ℕ → ℕ → FlagFault → Type 0
IsCount had asked (Count flags requests) = (flags ≡ had) × (requests ≡ asked)
IsCount had asked other = Unit {0}

-- why a reading of flags stops, if this is what stops it, from the flags that are left: so, if the bytes are known and the lines were short; and a failed read only with a new fault
abbrev pub StopsSo : (List (Option Bool) → Option FlagFault) → Position → Option (List ℕ) → ℕ → ℕ → FlagFault → Type 0
StopsSo stop old before faults_before faults_after (NotFlag line) = AreShort old → IfSome before (λ bytes. stop (flags_in bytes) ≡ Some (NotFlag line))
StopsSo stop old before faults_before faults_after (Count flags requests) = AreShort old → IfSome before (λ bytes. stop (flags_in bytes) ≡ Some (Count flags requests))
StopsSo stop old before faults_before faults_after ReadFault = HasNewFault faults_before faults_after
StopsSo stop old before faults_before faults_after (Trace fault) = ⊥
StopsSo stop old before faults_before faults_after NoMemory = ⊥

-- why the flag of a request that was read is not, whatever requests come with it: it stops the turns there
abbrev pub StopsTurn : Position → Device → FlagFault → Type 0
StopsTurn at hits fault =
    (x : Object) (requests : List Object) (refused : Option TraceFault)
    → StopsSo (λ flags. by_turns (x ∷ requests) refused flags at.line) at (known at hits.before) hits.faults_before hits.faults_after fault

-- why the flags don't end after the last request: it stops the turns there
abbrev pub StopsEnd : Position → Device → FlagFault → Type 0
StopsEnd at hits = StopsSo (λ flags. by_turns [] None flags at.line) at (known at hits.before) hits.faults_before hits.faults_after
