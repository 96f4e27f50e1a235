-- The commands: their words, their paths and the names of their operands.
use Rattle.std.specs.Prelude.{ℕ, ◌+◌, ◌==◌, nat_eq, List, [], ◌∷◌, ◌++◌, drop, Bool, false, not, codes, find, None, Some}
use Rattle.std.specs.declared.option.Option.{Option}
use Rattle.std.specs.List.{list_any, starts_with}
use Rattle.std.specs.Str.{bytes_eq}
use Rattle.bound_words.specs.declared.commands.Command.{Command}
use Rattle.bound_words.specs.declared.commands.PathPlaces.{PathPlaces}
use Rattle.bound_words.specs.declared.commands.Command.TheVariants as command

-- the word of a command: a curve over capacities has that of a curve
abbrev pub command_word : Command → List ℕ
command_word command.Bounds = codes "bounds"
command_word command.Check = codes "check"
command_word command.Replay = codes "replay"
command_word command.Curve = codes "curve"
command_word command.CapacityCurve = codes "curve"
command_word command.Sweep = codes "sweep"
command_word command.Judge = codes "judge"
command_word command.Demo = codes "demo"
command_word command.Upgrade = codes "upgrade"
command_word command.Refine = codes "refine"

-- each command that a word names, in the order of the help
abbrev pub all_commands : List Command
all_commands =
    command.Bounds ∷ command.Check ∷ command.Replay ∷ command.Curve ∷ command.Sweep
    ∷ command.Judge ∷ command.Demo ∷ command.Upgrade ∷ command.Refine ∷ []

-- the command that a word names
abbrev pub command_named : List ℕ → Option Command
command_named word = find (λ named. bytes_eq word (command_word named)) all_commands

-- the command that a command's word names: a curve over capacities has the word of a curve
abbrev pub plain : Command → Command
plain command.CapacityCurve = command.Curve
plain asked = asked

-- where the paths of a command stand among its words, of which the command is word 0: the trace, a certificate or flags that are read beside it, and a certificate that is made
abbrev pub places_of : Command → PathPlaces
places_of command.Bounds = record { count = 2; trace = Some 1; beside = Some 2; made = Some 2 }
places_of command.Check = record { count = 2; trace = Some 1; beside = Some 2; made = None }
places_of command.Replay = record { count = 1; trace = Some 1; beside = None; made = None }
places_of command.Curve = record { count = 1; trace = Some 1; beside = None; made = None }
places_of command.CapacityCurve = record { count = 1; trace = Some 1; beside = None; made = None }
places_of command.Sweep = record { count = 1; trace = Some 1; beside = None; made = None }
places_of command.Judge = record { count = 2; trace = Some 1; beside = Some 2; made = None }
places_of command.Demo = record { count = 0; trace = None; beside = None; made = None }
places_of command.Upgrade = record { count = 2; trace = None; beside = Some 1; made = Some 2 }
places_of command.Refine = record { count = 3; trace = Some 1; beside = Some 2; made = Some 3 }

-- what each path of the command is called, in their order
abbrev pub path_names : Command → List (List ℕ)
path_names command.Bounds = codes "trace" ∷ codes "certificate" ∷ []
path_names command.Check = codes "trace" ∷ codes "certificate" ∷ []
path_names command.Replay = codes "trace" ∷ []
path_names command.Curve = codes "trace" ∷ []
path_names command.CapacityCurve = codes "trace" ∷ []
path_names command.Sweep = codes "trace" ∷ []
path_names command.Judge = codes "trace" ∷ codes "hits" ∷ []
path_names command.Demo = []
path_names command.Upgrade = codes "certificate" ∷ codes "new certificate" ∷ []
path_names command.Refine = codes "trace" ∷ codes "certificate" ∷ codes "new certificate" ∷ []

-- whether a certificate is read and another one made, by the words at which their paths stand
abbrev pub remakes : Option ℕ → Option ℕ → Bool
remakes (Some read) (Some made) = not (read == made)
remakes read made = false

-- whether the first of some lines begins with the program's name, the word of a command and a space
abbrev pub is_usage_of : Command → List (List ℕ) → Bool
is_usage_of command [] = false
is_usage_of command (first ∷ lines) = starts_with nat_eq first (codes "bound_cli " ++ command_word command ++ codes " ")

-- the first operand is the word after the command and its paths
abbrev pub operands_at : Command → ℕ
operands_at command = (places_of command).count + 1

-- the operands that the command needs
abbrev pub needed_names : Command → List (List ℕ)
needed_names command.Bounds = codes "format" ∷ codes "capacity" ∷ []
needed_names command.Check = codes "format" ∷ []
needed_names command.Replay = codes "format" ∷ codes "capacity" ∷ codes "policy" ∷ []
needed_names command.Curve = codes "format" ∷ []
needed_names command.CapacityCurve = codes "format" ∷ codes "capacities" ∷ []
needed_names command.Sweep = codes "format" ∷ codes "capacities" ∷ []
needed_names command.Judge = codes "format" ∷ codes "capacity" ∷ []
needed_names command.Demo = []
needed_names command.Upgrade = []
needed_names command.Refine = codes "format" ∷ codes "window" ∷ []

-- the operands that the command has beside them
abbrev pub other_names : Command → List (List ℕ)
other_names command.Bounds =
    codes "block" ∷ codes "count" ∷ codes "idle" ∷ codes "ttl" ∷ codes "replace" ∷ codes "objective" ∷ codes "mode" ∷ codes "window" ∷ codes "denominator" ∷ codes "warmup" ∷ codes "version" ∷ codes "writes" ∷ []
other_names command.Check = codes "block" ∷ codes "count" ∷ codes "idle" ∷ codes "replace" ∷ []
other_names command.Replay = codes "block" ∷ codes "count" ∷ codes "idle" ∷ codes "replace" ∷ codes "warmup" ∷ codes "writes" ∷ codes "print" ∷ []
other_names command.Curve = codes "block" ∷ codes "count" ∷ codes "idle" ∷ []
other_names command.CapacityCurve = codes "block" ∷ codes "count" ∷ codes "idle" ∷ codes "objective" ∷ codes "denominator" ∷ codes "warmup" ∷ []
other_names command.Sweep = codes "block" ∷ codes "count" ∷ codes "idle" ∷ codes "replace" ∷ codes "policies" ∷ codes "warmup" ∷ codes "delay" ∷ []
other_names command.Judge = codes "block" ∷ codes "count" ∷ codes "idle" ∷ codes "replace" ∷ codes "warmup" ∷ codes "writes" ∷ []
other_names command.Demo =
    codes "seed" ∷ codes "requests" ∷ codes "objects" ∷ codes "capacity"
    ∷ codes "objective" ∷ codes "mode" ∷ codes "window" ∷ codes "denominator" ∷ []
other_names command.Upgrade = []
other_names command.Refine = codes "block" ∷ codes "count" ∷ codes "idle" ∷ codes "replace" ∷ []

-- the operands of the command by their names, those that it needs first
abbrev pub operand_names : Command → List (List ℕ)
operand_names asked = needed_names asked ++ other_names asked

-- whether the command has an operand of this name
abbrev pub has_operand : Command → List ℕ → Bool
has_operand asked name = list_any (bytes_eq name) (operand_names asked)

-- the operands of a command
abbrev pub operands_of : Command → List (List ℕ) → List (List ℕ)
operands_of command words = drop (operands_at command) words
