-- What the operands give, and what is taken if they give nothing.
use Rattle.std.specs.Prelude.{ℕ, ◌^◌, List, Bool, false, if◌then◌else◌, codes, unwrap_or, option_and_then}
use Rattle.std.specs.declared.option.Option.{Option}
use Rattle.std.specs.Option.{is_some, option_map}
use Rattle.cache_model.specs.declared.objects.Objective.{Objective}
use Rattle.cache_model.specs.declared.objects.Objective.TheVariants.{Object as Hits}
use Rattle.bound_terms.specs.declared.modes.Mode.{Mode}
use Rattle.bound_terms.specs.declared.modes.Mode.TheVariants.{Flow, Constant}
use Rattle.bound_terms.specs.declared.modes.Window.{Window}
use Rattle.bound_terms.specs.declared.modes.Window.TheVariants.{All as Whole}
use Rattle.relaxation.specs.declared.denominators.DenominatorChoice.{DenominatorChoice}
use Rattle.freshness.specs.declared.fresh.Freshness.{Freshness}
use Rattle.trace_any.specs.declared.format.Format.{Format}
use Rattle.trace_any.specs.declared.format.Layout.{Layout}
use Rattle.policy_model.specs.declared.names.PolicyName.{PolicyName}
use Rattle.policy_model.specs.Names.{policy_named}
use Rattle.cache_model.specs.declared.version.TheConstants.{CERT_VERSION}
use Rattle.bound_words.specs.Capacities.{capacity_list}
use Rattle.bound_words.specs.Named.{value_given}
use Rattle.bound_words.specs.Policies.{policy_list}
use Rattle.bound_words.specs.Values.{block_of, layout_of, capacity_of, count_of, long_count_of, objective_of, width_of, window_of, mode_of, denominator_of, number_to, reads_of, replaced_of, writes_of, flags_of, version_of, whole_of, drawn_of, usual_denominator}

-- the bytes of a block that the operands give, and 4096 where they give none
abbrev pub block_given : List (List ℕ) → ℕ
block_given operands = unwrap_or (option_and_then block_of (value_given (codes "block") operands)) 4096

-- whether only reads count, and all requests where the operands don't say it
abbrev pub reads_given : List (List ℕ) → Bool
reads_given operands = unwrap_or (option_and_then reads_of (value_given (codes "count") operands)) false

-- how long objects stay fresh after they were asked for that the operands give, if it has an end
abbrev pub idle_given : List (List ℕ) → Option ℕ
idle_given operands = option_and_then whole_of (value_given (codes "idle") operands)

-- how long they stay fresh after they were written, if it has an end
abbrev pub ttl_given : List (List ℕ) → Option ℕ
ttl_given operands = option_and_then whole_of (value_given (codes "ttl") operands)

-- whether objects are replaced, and not where the operands don't say it
abbrev pub replaced_given : List (List ℕ) → Bool
replaced_given operands = unwrap_or (option_and_then replaced_of (value_given (codes "replace") operands)) false

-- how long objects stay fresh by the operands
abbrev pub fresh_given : List (List ℕ) → Freshness
fresh_given operands = record { idle = idle_given operands; ttl = ttl_given operands; replace = replaced_given operands }

-- the form of a layout whose objects stay fresh so long
abbrev pub of_layout : Freshness → Layout → Format
of_layout fresh layout = record { layout = layout; fresh = fresh }

-- the form of the trace that the operands give
abbrev pub format_given : List (List ℕ) → Option Format
format_given operands = option_and_then (λ value. option_map (of_layout (fresh_given operands)) (layout_of value (block_given operands) (reads_given operands))) (value_given (codes "format") operands)

-- the capacity that the operands give
abbrev pub capacity_given : List (List ℕ) → Option ℕ
capacity_given operands = option_and_then capacity_of (value_given (codes "capacity") operands)

-- the list of capacities that the operands give
abbrev pub capacities_given : List (List ℕ) → Option (List ℕ)
capacities_given operands = option_and_then capacity_list (value_given (codes "capacities") operands)

-- the objective that the operands give, and hits where they give none
abbrev pub objective_given : List (List ℕ) → Objective
objective_given operands = unwrap_or (option_and_then objective_of (value_given (codes "objective") operands)) Hits

-- the window that the operands give, and one for all steps where they give none
abbrev pub window_given : List (List ℕ) → Window
window_given operands = unwrap_or (option_and_then window_of (value_given (codes "window") operands)) Whole

-- the steps of a block that the operands of a refinement give
abbrev pub width_given : List (List ℕ) → Option ℕ
width_given operands = option_and_then width_of (value_given (codes "window") operands)

-- the mode where the operands give none: the flow, or one price if objects expire a time after they were written
abbrev pub usual_mode : List (List ℕ) → Mode
usual_mode operands = if is_some (ttl_given operands) then Constant else Flow (window_given operands)

-- the mode that the operands give, and the usual one where they give none
abbrev pub mode_given : List (List ℕ) → Mode
mode_given operands =
    unwrap_or (option_and_then (λ value. mode_of value (window_given operands)) (value_given (codes "mode") operands)) (usual_mode operands)

-- the denominator that the operands give, and the usual one of the mode where they give none
abbrev pub denominator_given : Mode → List (List ℕ) → DenominatorChoice
denominator_given mode operands = unwrap_or (option_and_then denominator_of (value_given (codes "denominator") operands)) (usual_denominator mode)

-- the denominator that the operands of a curve over capacities give, and 2^48 where they give none
abbrev pub number_given : List (List ℕ) → ℕ
number_given operands = unwrap_or (option_and_then (number_to (2 ^ 48)) (value_given (codes "denominator") operands)) (2 ^ 48)

-- the policy that the operands give
abbrev pub policy_given : List (List ℕ) → Option PolicyName
policy_given operands = option_and_then policy_named (value_given (codes "policy") operands)

-- the list of policies that the operands of a sweep give, if they do
abbrev pub policies_given : List (List ℕ) → Option (List ℕ)
policies_given operands = option_and_then policy_list (value_given (codes "policies") operands)

-- the warm-up that the operands give, and 0 if they give none
abbrev pub warmup_given : List (List ℕ) → ℕ
warmup_given operands = unwrap_or (option_and_then count_of (value_given (codes "warmup") operands)) 0

-- the warm-up that the operands of a sweep give, and 0 if they give none
abbrev pub long_warmup_given : List (List ℕ) → ℕ
long_warmup_given operands = unwrap_or (option_and_then long_count_of (value_given (codes "warmup") operands)) 0

-- by how many requests the operands let an object enter late, and 0 if they don't say it
abbrev pub delay_given : List (List ℕ) → ℕ
delay_given operands = unwrap_or (option_and_then long_count_of (value_given (codes "delay") operands)) 0

-- the version of the certificate that the operands give, and the first where they give none
abbrev pub version_given : List (List ℕ) → ℕ
version_given operands = unwrap_or (option_and_then version_of (value_given (codes "version") operands)) CERT_VERSION

-- whether written bytes are counted, and not where the operands don't say it
abbrev pub writes_given : List (List ℕ) → Bool
writes_given operands = unwrap_or (option_and_then writes_of (value_given (codes "writes") operands)) false

-- whether flags are printed, and the report where the operands don't say it
abbrev pub flags_given : List (List ℕ) → Bool
flags_given operands = unwrap_or (option_and_then flags_of (value_given (codes "print") operands)) false

-- the seed of a demo that the operands give, and 1 where they give none
abbrev pub seed_given : List (List ℕ) → ℕ
seed_given operands = unwrap_or (option_and_then whole_of (value_given (codes "seed") operands)) 1

-- the number of this name that the operands give, and the usual one if they give none
abbrev pub drawn_given : List ℕ → ℕ → List (List ℕ) → ℕ
drawn_given name usual operands = unwrap_or (option_and_then drawn_of (value_given name operands)) usual

-- the requests of a demo that the operands give, and 2000 where they give none
abbrev pub requests_given : List (List ℕ) → ℕ
requests_given operands = drawn_given (codes "requests") 2000 operands

-- the objects of a demo that the operands give, and 200 where they give none
abbrev pub objects_given : List (List ℕ) → ℕ
objects_given operands = drawn_given (codes "objects") 200 operands

-- the capacity of a demo that the operands give, and 65536 where they give none
abbrev pub capacity_or_usual : List (List ℕ) → ℕ
capacity_or_usual operands = unwrap_or (capacity_given operands) 65536
