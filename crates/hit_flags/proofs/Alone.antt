-- What stops the turns, as the flags alone tell it.
use Rattle.std.proofs.Common.{◌≡◌, ℕ, ◌+◌, ◌∙◌, ap, min, Bool, List, [], ◌∷◌, ◌++◌, length, map, arith, Option, Some, None}
use Rattle.std.specs.Option.{unwrap_or}
use Rattle.std.proofs.lemmas.Option.{none-some}
use Rattle.cache_model.specs.declared.objects.Object.{Object}
use Rattle.trace_any.specs.declared.fault.TraceFault.{TraceFault}
use Rattle.hit_flags.specs.declared.fault.FlagFault.{FlagFault}
use Rattle.hit_flags.specs.declared.fault.FlagFault.TheVariants.{Trace, NotFlag, Count, ReadFault, NoMemory}
use Rattle.hit_flags.specs.Flags.{by_turns, first_without}

-- the line of a fault that is one of a line
abbrev line_of : Option FlagFault → Option ℕ
line_of None = None
line_of (Some (Trace fault)) = None
line_of (Some (NotFlag line)) = Some line
line_of (Some (Count flags requests)) = None
line_of (Some ReadFault) = None
line_of (Some NoMemory) = None

-- how many flags there are, and how many requests, by a fault of them
abbrev flags_of : Option FlagFault → Option ℕ
flags_of None = None
flags_of (Some (Trace fault)) = None
flags_of (Some (NotFlag line)) = None
flags_of (Some (Count flags requests)) = Some flags
flags_of (Some ReadFault) = None
flags_of (Some NoMemory) = None

abbrev requests_of : Option FlagFault → Option ℕ
requests_of None = None
requests_of (Some (Trace fault)) = None
requests_of (Some (NotFlag line)) = None
requests_of (Some (Count flags requests)) = Some requests
requests_of (Some ReadFault) = None
requests_of (Some NoMemory) = None

-- the line that stops the turns is the first without a flag
pub turns_without : (rest : List Object) (refused : Option TraceFault) (lines : List (Option Bool)) (both line : ℕ) → by_turns rest refused lines both ≡ Some (NotFlag line) → first_without lines (both + 1) ≡ Some line
turns_without [] (Some fault) lines both line is = absurd (none-some line (ap line_of is))
turns_without [] None [] both line is = absurd (none-some line (ap line_of is))
turns_without [] None (None ∷ more) both line is = ap line_of is
turns_without [] None (Some flag ∷ more) both line is = absurd (none-some line (ap line_of is))
turns_without (x ∷ rest) refused [] both line is = absurd (none-some line (ap line_of is))
turns_without (x ∷ rest) refused (None ∷ more) both line is = ap line_of is
turns_without (x ∷ rest) refused (Some flag ∷ more) both line is = turns_without rest refused more (both + 1) line is

-- it has the same number after lines with flags
pub first_without-after : (flags : List Bool) (more : List (Option Bool)) (line : ℕ) → first_without (map (λ flag. Some flag) flags ++ more) line ≡ first_without more (line + length flags)
first_without-after [] more line = ap (first_without more) (omega arith)
first_without-after (flag ∷ flags) more line = first_without-after flags more (line + 1) ∙ ap (first_without more) (omega arith)

-- where one of the two ends first, the lines are as many as the flags that are counted, up to one more than the requests
pub turns_counted : (rest : List Object) (refused : Option TraceFault) (lines : List (Option Bool)) (both flags requests : ℕ) → by_turns rest refused lines both ≡ Some (Count flags requests) → min (both + length lines) (requests + 1) ≡ flags
turns_counted [] (Some fault) lines both flags requests is = absurd (none-some flags (ap flags_of is))
turns_counted [] None [] both flags requests is = absurd (none-some flags (ap flags_of is))
turns_counted [] None (None ∷ more) both flags requests is = absurd (none-some flags (ap flags_of is))
turns_counted [] None (Some flag ∷ more) both flags requests is =
    let had : both + 1 ≡ flags = ap (λ o. unwrap_or (flags_of o) 0) is in
    let asked : both ≡ requests = ap (λ o. unwrap_or (requests_of o) 0) is in
    omega (arith, had, asked)
turns_counted (x ∷ rest) refused [] both flags requests is =
    let had : both ≡ flags = ap (λ o. unwrap_or (flags_of o) 0) is in
    let asked : both + 1 ≡ requests = ap (λ o. unwrap_or (requests_of o) 0) is in
    omega (arith, had, asked)
turns_counted (x ∷ rest) refused (None ∷ more) both flags requests is = absurd (none-some flags (ap flags_of is))
turns_counted (x ∷ rest) refused (Some flag ∷ more) both flags requests is =
    let more_counted = turns_counted rest refused more (both + 1) flags requests is in
    omega (arith, more_counted)
