-- The values of operands.
use Rattle.std.specs.Prelude.{ℕ, ◌^◌, List, Bool, true, false, nat_le, nat_lt, ◌&&◌, if◌then◌else◌, codes, Result, Ok, Err, None, Some}
use Rattle.std.specs.declared.option.Option.{Option}
use Rattle.std.specs.Option.{option_map}
use Rattle.std.specs.Str.{bytes_eq}
use Rattle.bound_base.specs.Digits.{number_of}
use Rattle.bound_base.specs.declared.digits.NumFault.{NumFault}
use Rattle.cache_model.specs.declared.objects.Objective.{Objective}
use Rattle.cache_model.specs.declared.objects.Objective.TheVariants.{Object as Hits, Bytes}
use Rattle.bound_terms.specs.declared.modes.Mode.{Mode}
use Rattle.bound_terms.specs.declared.modes.Mode.TheVariants.{Flow, Constant, Infinite}
use Rattle.bound_terms.specs.declared.modes.Window.{Window}
use Rattle.bound_terms.specs.declared.modes.Window.TheVariants.{Steps, All as Whole}
use Rattle.relaxation.specs.declared.denominators.DenominatorChoice.{DenominatorChoice}
use Rattle.relaxation.specs.declared.denominators.DenominatorChoice.TheVariants.{Auto, Exact, Given}
use Rattle.trace_any.specs.declared.format.Layout.{Layout}
use Rattle.trace_any.specs.declared.format.Layout.TheVariants.{Webcache, Arc, Msr, Oracle, MarkedWebcache, MsrReads}
use Rattle.cache_model.specs.declared.version.TheConstants.{SHORT_VERSION}

-- a number from 1 to the most that is allowed
abbrev pub checked : ℕ → Result ℕ NumFault → Option ℕ
checked most (Err e) = None
checked most (Ok n) = if nat_le 1 n && nat_le n most then Some n else None

-- the number from 1 to the most that a value names
abbrev pub number_to : ℕ → List ℕ → Option ℕ
number_to most value = checked most (number_of (2 ^ 64) value)

-- a block has 1 to 2^48 bytes
abbrev pub block_of : List ℕ → Option ℕ
block_of value = number_to (2 ^ 48) value

-- whether only reads count, by a value: all requests, or the reads
abbrev pub reads_of : List ℕ → Option Bool
reads_of value =
    if bytes_eq value (codes "all") then Some false
    else (if bytes_eq value (codes "reads") then Some true
    else None)

-- whether written bytes are counted, by a value
abbrev pub writes_of : List ℕ → Option Bool
writes_of value =
    if bytes_eq value (codes "none") then Some false
    else (if bytes_eq value (codes "count") then Some true
    else None)

-- whether flags are printed in place of the report, by a value
abbrev pub flags_of : List ℕ → Option Bool
flags_of value =
    if bytes_eq value (codes "report") then Some false
    else (if bytes_eq value (codes "flags") then Some true
    else None)

-- whether objects are replaced by others of their id, by a value
abbrev pub replaced_of : List ℕ → Option Bool
replaced_of value =
    if bytes_eq value (codes "no") then Some false
    else (if bytes_eq value (codes "yes") then Some true
    else None)

-- the layout of a trace that a value names, if a block has this many bytes, and if only reads count or all requests
abbrev pub layout_of : List ℕ → ℕ → Bool → Option Layout
layout_of value block reads =
    if bytes_eq value (codes "webcache") then Some (if reads then MarkedWebcache else Webcache)
    else (if bytes_eq value (codes "arc") then Some Arc
    else (if bytes_eq value (codes "msr") then Some (if reads then MsrReads block else Msr block)
    else (if bytes_eq value (codes "oracle") then Some Oracle
    else None)))

-- a capacity has 1 to 2^56 bytes
abbrev pub capacity_of : List ℕ → Option ℕ
capacity_of value = number_to (2 ^ 56) value

-- the objective that a value names
abbrev pub objective_of : List ℕ → Option Objective
objective_of value =
    if bytes_eq value (codes "object") then Some Hits
    else (if bytes_eq value (codes "bytes") then Some Bytes
    else None)

-- a window of a number of steps has 1 to 2^25 of them
abbrev pub width_of : List ℕ → Option ℕ
width_of value = number_to (2 ^ 25) value

-- the window that a value names: one for all steps, or a number of steps
abbrev pub window_of : List ℕ → Option Window
window_of value = if bytes_eq value (codes "all") then Some Whole else option_map Steps (width_of value)

-- the mode that a value names, if the mode flow has this window
abbrev pub mode_of : List ℕ → Window → Option Mode
mode_of value window =
    if bytes_eq value (codes "flow") then Some (Flow window)
    else (if bytes_eq value (codes "constant") then Some Constant
    else (if bytes_eq value (codes "infinite") then Some Infinite
    else None))

-- the denominator that a value names: a word for how it is chosen, or a number from 1 to 2^48
abbrev pub denominator_of : List ℕ → Option DenominatorChoice
denominator_of value =
    if bytes_eq value (codes "auto") then Some Auto
    else (if bytes_eq value (codes "exact") then Some Exact
    else option_map Given (number_to (2 ^ 48) value))

-- a number that is at most 2^25
abbrev pub few : Result ℕ NumFault → Option ℕ
few (Err e) = None
few (Ok n) = if nat_le n (2 ^ 25) then Some n else None

-- a number of requests is 0 to 2^25
abbrev pub count_of : List ℕ → Option ℕ
count_of value = few (number_of (2 ^ 64) value)

-- a number that is below 2^32
abbrev pub few_in_one_pass : Result ℕ NumFault → Option ℕ
few_in_one_pass (Err e) = None
few_in_one_pass (Ok n) = if nat_lt n (2 ^ 32) then Some n else None

-- a number of requests of a trace of any length is 0 to 2^32 - 1
abbrev pub long_count_of : List ℕ → Option ℕ
long_count_of value = few_in_one_pass (number_of (2 ^ 64) value)

-- a certificate is written in one of two versions
abbrev pub version_of : List ℕ → Option ℕ
version_of value = number_to SHORT_VERSION value

-- the number that a value names
abbrev pub named : Result ℕ NumFault → Option ℕ
named (Err e) = None
named (Ok n) = Some n

-- a seed and a time are below 2^64
abbrev pub whole_of : List ℕ → Option ℕ
whole_of value = named (number_of (2 ^ 64) value)

-- a demo has 1 to 2^25 requests, and as many objects
abbrev pub drawn_of : List ℕ → Option ℕ
drawn_of value = number_to (2 ^ 25) value

-- the denominator of a mode if none is given
abbrev pub usual_denominator : Mode → DenominatorChoice
usual_denominator (Flow window) = Auto
usual_denominator Constant = Given (2 ^ 48)
usual_denominator Infinite = Given 1
