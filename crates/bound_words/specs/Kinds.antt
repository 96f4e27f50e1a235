-- The kinds of values that operands have, and which values are of each.
use Rattle.std.specs.Prelude.{ℕ, ◌^◌, nat_le, List, Bool, false, ◌&&◌, ◌||◌, if◌then◌else◌, codes, None, Some}
use Rattle.std.specs.declared.option.Option.{Option}
use Rattle.std.specs.List.{list_any}
use Rattle.std.specs.Option.{is_some, option_map_or}
use Rattle.bound_base.specs.Digits.{number_of}
use Rattle.std.specs.Str.{bytes_eq}
use Rattle.bound_terms.specs.declared.modes.Window.TheVariants.{All as Whole}
use Rattle.policy_model.specs.Names.{policy_named}
use Rattle.bound_words.specs.declared.commands.Command.{Command}
use Rattle.bound_words.specs.declared.commands.Command.TheVariants as command
use Rattle.bound_words.specs.declared.kinds.Kind.{Kind}
use Rattle.bound_words.specs.declared.kinds.Kind.TheVariants as kind
use Rattle.bound_words.specs.declared.kinds.Values.{Values}
use Rattle.bound_words.specs.declared.kinds.Values.TheVariants as values
use Rattle.bound_words.specs.Capacities.{capacities_of}
use Rattle.bound_words.specs.Commands.{all_commands, has_operand}
use Rattle.bound_words.specs.Policies.{policies_of}
use Rattle.bound_words.specs.Values.{block_of, layout_of, capacity_of, count_of, long_count_of, objective_of, width_of, window_of, mode_of, denominator_of, number_to, reads_of, replaced_of, writes_of, flags_of, version_of, whole_of, drawn_of, named}

-- whether a value is of this kind
abbrev pub takes : Kind → List ℕ → Bool
takes kind.Form value = is_some (layout_of value 4096 false)
takes kind.Block value = is_some (block_of value)
takes kind.Counted value = is_some (reads_of value)
takes kind.Time value = is_some (whole_of value)
takes kind.Replaced value = is_some (replaced_of value)
takes kind.Capacity value = is_some (capacity_of value)
takes kind.Capacities value = is_some (capacities_of value)
takes kind.Objective value = is_some (objective_of value)
takes kind.Mode value = is_some (mode_of value Whole)
takes kind.Window value = is_some (window_of value)
takes kind.Width value = is_some (width_of value)
takes kind.Denominator value = is_some (denominator_of value)
takes kind.Number value = is_some (number_to (2 ^ 48) value)
takes kind.Policy value = is_some (policy_named value)
takes kind.Policies value = is_some (policies_of value)
takes kind.Warmup value = is_some (count_of value)
takes kind.Requests value = is_some (long_count_of value)
takes kind.Version value = is_some (version_of value)
takes kind.Writes value = is_some (writes_of value)
takes kind.Print value = is_some (flags_of value)
takes kind.Seed value = is_some (whole_of value)
takes kind.Drawn value = is_some (drawn_of value)

-- whether a value is a number in this range
abbrev pub is_within : ℕ → ℕ → List ℕ → Bool
is_within least most value = option_map_or (λ n. nat_le least n && nat_le n most) (named (number_of (2 ^ 64) value)) false

-- whether a value is what is said of values
abbrev pub accepts : Values → List ℕ → Bool
accepts (values.Words words) value = list_any (λ word. bytes_eq value word.now) words.now
accepts (values.Number least most) value = is_within least most value
accepts (values.WordOrNumber words most) value = list_any (λ word. bytes_eq value word.now) words.now || is_within 1 most value
accepts values.Policy value = is_some (policy_named value)
accepts values.Policies value = is_some (policies_of value)
accepts values.Capacities value = is_some (capacities_of value)

-- what the operand of a name has for its value in most commands
abbrev pub usual_kind : List ℕ → Option Kind
usual_kind name =
    if bytes_eq name (codes "format") then Some kind.Form
    else (if bytes_eq name (codes "block") then Some kind.Block
    else (if bytes_eq name (codes "count") then Some kind.Counted
    else (if bytes_eq name (codes "idle") || bytes_eq name (codes "ttl") then Some kind.Time
    else (if bytes_eq name (codes "replace") then Some kind.Replaced
    else (if bytes_eq name (codes "capacity") then Some kind.Capacity
    else (if bytes_eq name (codes "objective") then Some kind.Objective
    else (if bytes_eq name (codes "mode") then Some kind.Mode
    else (if bytes_eq name (codes "window") then Some kind.Window
    else (if bytes_eq name (codes "denominator") then Some kind.Denominator
    else (if bytes_eq name (codes "policy") then Some kind.Policy
    else (if bytes_eq name (codes "warmup") then Some kind.Warmup
    else (if bytes_eq name (codes "delay") then Some kind.Requests
    else (if bytes_eq name (codes "version") then Some kind.Version
    else (if bytes_eq name (codes "writes") then Some kind.Writes
    else (if bytes_eq name (codes "print") then Some kind.Print
    else (if bytes_eq name (codes "seed") then Some kind.Seed
    else (if bytes_eq name (codes "requests") || bytes_eq name (codes "objects") then Some kind.Drawn
    else None)))))))))))))))))

-- what it has in a command: the window of a refinement is a number of steps, over capacities the denominator is a number, and a sweep may have a warm-up of any length and a list of policies
abbrev pub kind_of : Command → List ℕ → Option Kind
kind_of command.Refine name = if bytes_eq name (codes "window") then Some kind.Width else usual_kind name
kind_of command.CapacityCurve name =
    if bytes_eq name (codes "capacities") then Some kind.Capacities
    else (if bytes_eq name (codes "denominator") then Some kind.Number
    else usual_kind name)
kind_of command.Sweep name =
    if bytes_eq name (codes "capacities") then Some kind.Capacities
    else (if bytes_eq name (codes "policies") then Some kind.Policies
    else (if bytes_eq name (codes "warmup") then Some kind.Requests
    else usual_kind name))
kind_of command name = usual_kind name

-- whether a name is that of an operand of some command
abbrev pub is_operand : List ℕ → Bool
is_operand name = list_any (λ asked. has_operand asked name) all_commands

-- whether the operand of a name may have this value in a command
abbrev pub takes_value : Command → List ℕ → List ℕ → Bool
takes_value asked name value = option_map_or (λ k. takes k value) (kind_of asked name) false
