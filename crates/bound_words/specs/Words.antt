-- The words of the command line.
use Rattle.std.specs.Prelude.{ℕ, zero, suc, ◌+◌, List, [], ◌∷◌, ◌++◌, length, ◌==◌, nat_lt, Bool, true, false, not, ◌&&◌, ◌||◌, if◌then◌else◌, codes, slice_get, option_and_then, IsTrue, IfSome, Result, Ok, Err, None, Some}
use Rattle.std.specs.declared.option.Option.{Option}
use Rattle.std.specs.Option.{is_some, option_map, option_map_or, option_or}
use Rattle.std.specs.List.{list_all}
use Rattle.std.specs.Str.{bytes_eq}
use Rattle.bound_words.specs.declared.plans.Plan.{Plan}
use Rattle.bound_words.specs.declared.commands.Command.{Command}
use Rattle.bound_words.specs.declared.commands.PathPlaces.{PathPlaces}
use Rattle.bound_words.specs.declared.words.WordFault.{WordFault}
use Rattle.bound_terms.specs.declared.words.WordKind.{WordKind}
use Rattle.bound_terms.specs.declared.words.WordKind.TheVariants.{Missing, Unknown, Twice, BadValue}
use Rattle.bound_words.specs.declared.commands.Command.TheVariants as command
use Rattle.bound_words.specs.Commands.{command_named, has_operand, needed_names, places_of, operands_at, operands_of}
use Rattle.bound_words.specs.Faults.{◌>>=◌, fault, passed}
use Rattle.bound_words.specs.Named.{has_equals, name_of, value_of, value_given, place_given}
use Rattle.bound_words.specs.Kinds.{takes_value}
use Rattle.bound_words.specs.Given.{flags_given, reads_given, ttl_given, writes_given}
use Rattle.bound_words.specs.Plans.{plan_of_command}
use Rattle.bound_words.specs.Values.{layout_of}
use Rattle.trace_any.specs.Readings.{has_marks}

-- a command that is none is unknown
abbrev pub known_command : Option Command → Result Command WordFault
known_command None = Err (fault 1 Unknown)
known_command (Some command) = Ok command

-- the first word must be a command
abbrev pub command_of : Option (List ℕ) → Result Command WordFault
command_of None = Err (fault 1 Missing)
command_of (Some word) = known_command (command_named word)

-- what is asked for by a command with these operands: a curve with capacities is one over capacities
abbrev pub command_with : Command → List (List ℕ) → Command
command_with command.Curve operands = if is_some (value_given (codes "capacities") operands) then command.CapacityCurve else command.Curve
command_with named operands = named

-- what the words ask for, if they begin with a command
abbrev pub command_asked : List (List ℕ) → Option Command
command_asked words = option_map (λ named. command_with named (operands_of named words)) (option_and_then command_named (slice_get words 0))

-- a path is any word but the empty one
abbrev pub path : ℕ → Option (List ℕ) → Result (Unit {0}) WordFault
path place None = Err (fault place Missing)
path place (Some word) = if length word == 0 then Err (fault place BadValue) else Ok tt

-- this many words from word `at` on are paths
abbrev pub paths : ℕ → ℕ → List (List ℕ) → Result (Unit {0}) WordFault
paths at zero words = Ok tt
paths at (suc count) words = path (at + 1) (slice_get words at) >>= (λ named. paths (at + 1) count words)

-- why a word of a command is refused that stands after these operands: it is none of the command's, it repeats one, or its value is none of the operand's
abbrev pub operand_fault : Command → List (List ℕ) → List ℕ → Option WordKind
operand_fault command before word =
    if not (has_equals word && has_operand command (name_of word)) then Some Unknown
    else (if is_some (value_given (name_of word) before) then Some Twice
    else (if takes_value command (name_of word) (value_of word) then None
    else Some BadValue))

-- the first of the words that is refused, the first of which stands at this place after these operands
abbrev pub operands_fault : Command → ℕ → List (List ℕ) → List (List ℕ) → Option WordFault
operands_fault command place before [] = None
operands_fault command place before (word ∷ words) =
    option_or (option_map (fault place) (operand_fault command before word)) (operands_fault command (place + 1) (before ++ word ∷ []) words)

-- the operand of this name, if it is given, is unknown
abbrev pub unknown_operand : ℕ → List ℕ → List (List ℕ) → Option WordFault
unknown_operand first name operands = option_map (λ place. fault place Unknown) (place_given first name operands)

-- whether a form of the trace is given that takes no block
abbrev pub takes_no_block : Option (List ℕ) → Bool
takes_no_block None = false
takes_no_block (Some format) = not (bytes_eq format (codes "msr"))

-- a block is unknown beside a form of the trace that takes none
abbrev pub block_fault : ℕ → List (List ℕ) → Option WordFault
block_fault first operands = if takes_no_block (value_given (codes "format") operands) then unknown_operand first (codes "block") operands else None

-- whether a form of the trace is given whose lines have no time
abbrev pub has_no_times : Option (List ℕ) → Bool
has_no_times None = false
has_no_times (Some format) = bytes_eq format (codes "arc")

-- an operand that is a time is unknown beside a form of the trace without times
abbrev pub time_fault : ℕ → List ℕ → List (List ℕ) → Option WordFault
time_fault first name operands = if has_no_times (value_given (codes "format") operands) then unknown_operand first name operands else None

-- whether a form of the trace is given whose ids have no size of their own: it is of blocks
abbrev pub has_no_sizes : Option (List ℕ) → Bool
has_no_sizes None = false
has_no_sizes (Some format) = bytes_eq format (codes "arc") || bytes_eq format (codes "msr")

-- that objects are replaced is unknown beside a form of the trace of blocks
abbrev pub replace_fault : ℕ → List (List ℕ) → Option WordFault
replace_fault first operands = if has_no_sizes (value_given (codes "format") operands) then unknown_operand first (codes "replace") operands else None

-- whether a form of the trace is given that has no marks if only reads count
abbrev pub has_no_writes : Option (List ℕ) → Bool
has_no_writes None = false
has_no_writes (Some format) = option_map_or (λ layout. not (has_marks layout)) (layout_of format 4096 true) true

-- that only reads count is unknown beside a form of the trace that has no writes
abbrev pub count_fault : ℕ → List (List ℕ) → Option WordFault
count_fault first operands =
    if reads_given operands && has_no_writes (value_given (codes "format") operands) then unknown_operand first (codes "count") operands else None

-- whether the mode is given and is the flow
abbrev pub is_flow : Option (List ℕ) → Bool
is_flow None = false
is_flow (Some mode) = bytes_eq mode (codes "flow")

-- that objects expire a time after they were written is unknown beside the flow
abbrev pub ttl_fault : ℕ → List (List ℕ) → Option WordFault
ttl_fault first operands = if is_flow (value_given (codes "mode") operands) then unknown_operand first (codes "ttl") operands else None

-- whether the mode takes no window: one that is given and isn't the flow, or one price, which is usual beside a ttl
abbrev pub takes_no_window : Option (List ℕ) → Bool → Bool
takes_no_window None has_ttl = has_ttl
takes_no_window (Some mode) has_ttl = not (bytes_eq mode (codes "flow"))

-- a window is unknown beside a mode that takes none
abbrev pub window_fault : ℕ → List (List ℕ) → Option WordFault
window_fault first operands =
    if takes_no_window (value_given (codes "mode") operands) (is_some (ttl_given operands)) then unknown_operand first (codes "window") operands else None

-- that written bytes are counted is unknown beside flags that are printed
abbrev pub writes_fault : ℕ → List (List ℕ) → Option WordFault
writes_fault first operands = if writes_given operands && flags_given operands then unknown_operand first (codes "writes") operands else None

-- the fault at the lesser place
abbrev pub earlier : Option WordFault → Option WordFault → Option WordFault
earlier None second = second
earlier (Some first) None = Some first
earlier (Some first) (Some second) = if nat_lt second.place first.place then Some second else Some first

-- the first of the times for which objects stay fresh that the form of the trace doesn't have
abbrev pub times_fault : ℕ → List (List ℕ) → Option WordFault
times_fault first operands = earlier (time_fault first (codes "idle") operands) (time_fault first (codes "ttl") operands)

-- the first operand that the form of the trace doesn't have
abbrev pub form_fault : ℕ → List (List ℕ) → Option WordFault
form_fault first operands = earlier (earlier (block_fault first operands) (times_fault first operands)) (replace_fault first operands)

-- the first operand that may not stand beside another
abbrev pub beside_fault : ℕ → List (List ℕ) → Option WordFault
beside_fault first operands =
    earlier (earlier (earlier (earlier (form_fault first operands) (count_fault first operands)) (ttl_fault first operands)) (window_fault first operands))
    (writes_fault first operands)

-- what operands ask for that are the words of a command from this place on, or the first fault in them
abbrev pub plan_of_operands : Command → ℕ → List (List ℕ) → List (List ℕ) → Result Plan WordFault
plan_of_operands asked first words operands = do
  accepted ← passed (operands_fault asked first [] operands)
  fitting ← passed (beside_fault first operands)
  plan_of_command asked words operands

-- what the words ask for, or the first fault in them
unfoldable pub plan : List (List ℕ) → Result Plan WordFault
plan words = do
  named ← command_of (slice_get words 0)
  there ← paths 1 (places_of named).count words
  plan_of_operands (command_with named (operands_of named words)) (operands_at named + 1) words (operands_of named words)

-- whether these operands give each one that the command needs
abbrev pub has_needed : Command → List (List ℕ) → Bool
has_needed asked operands = list_all (λ name. is_some (value_given name operands)) (needed_names asked)

-- if the words begin with a command, they give each operand that it needs
abbrev pub HasNeeded : List (List ℕ) → Type 0
HasNeeded words = IfSome (command_asked words) (λ asked. IsTrue (has_needed asked (operands_of asked words)))

-- the word, or a dash if there is none
abbrev pub word_or_dash : Option (List ℕ) → List ℕ
word_or_dash (Some word) = word
word_or_dash None = codes "-"

-- where the paths stand, if the words begin with a command
abbrev pub places_in : Option Command → PathPlaces
places_in None = record { count = 0; trace = None; beside = None; made = None }
places_in (Some command) = places_of command

-- the path at a word, or a dash if the command has no such path
abbrev pub path_at : Option ℕ → List (List ℕ) → List ℕ
path_at None words = codes "-"
path_at (Some at) words = word_or_dash (slice_get words at)

-- where the paths of the words stand
abbrev pub places_named : List (List ℕ) → PathPlaces
places_named words = places_in (command_named (word_or_dash (slice_get words 0)))

-- the path of the trace
abbrev pub trace_path : List (List ℕ) → List ℕ
trace_path words = path_at (places_named words).trace words

-- the path of the certificate that is read
abbrev pub cert_path : List (List ℕ) → List ℕ
cert_path words = path_at (places_named words).beside words

-- the path of the certificate that is made
abbrev pub made_path : List (List ℕ) → List ℕ
made_path words = path_at (places_named words).made words
