-- What a plan asks for, and the plan of each command.
use Rattle.std.specs.Prelude.{◌≡◌, ℕ, ◌+◌, ◌^◌, ◌≤◌, List, length, ◌&&◌, Bool, false, if◌then◌else◌, codes, slice_get, Result, Ok, None, Some}
use Rattle.std.specs.declared.option.Option.{Option}
use Rattle.std.specs.Str.{bytes_eq}
use Rattle.cache_model.specs.declared.objects.Objective.{Objective}
use Rattle.cache_model.specs.declared.version.TheConstants.{CERT_VERSION}
use Rattle.relaxation.specs.declared.denominators.DenominatorChoice.{DenominatorChoice}
use Rattle.trace_any.specs.declared.format.Format.{Format}
use Rattle.trace_any.specs.Readings.{IsFormat}
use Rattle.bound_terms.specs.declared.modes.Mode.{Mode}
use Rattle.bound_words.specs.declared.plans.BoundSettings.{BoundSettings}
use Rattle.bound_words.specs.declared.plans.Settings.{Settings}
use Rattle.bound_words.specs.declared.plans.Settings.TheVariants.{Bounds, TtlBounds, Check, Replay, Curve, CapacityCurve, Sweep, Judge, Demo, Upgrade, Refine}
use Rattle.bound_words.specs.declared.plans.Plan.{Plan}
use Rattle.bound_words.specs.declared.plans.Plan.TheVariants as plan
use Rattle.bound_words.specs.declared.commands.Command.{Command}
use Rattle.bound_words.specs.declared.commands.Command.TheVariants as command
use Rattle.bound_words.specs.declared.commands.PathPlaces.{PathPlaces}
use Rattle.bound_words.specs.declared.words.WordFault.{WordFault}
use Rattle.bound_terms.specs.declared.words.WordKind.TheVariants.{BadValue}
use Rattle.bound_words.specs.Commands.{places_of}
use Rattle.bound_words.specs.Faults.{◌>>=◌, fault, passed, required}
use Rattle.bound_words.specs.Given.{capacities_given, capacity_given, capacity_or_usual, delay_given, denominator_given, format_given, mode_given, number_given}
use Rattle.bound_words.specs.Given.{flags_given, long_warmup_given, objective_given, objects_given, policies_given, policy_given, requests_given, seed_given, version_given, warmup_given, width_given, writes_given}
use Rattle.bound_words.specs.Ranges.{AreBoundSettingsInRange, AreDrawSettingsInRange, AreReplaySettingsInRange}

-- the settings of bounds, in the order of a plan
abbrev pub bound_settings : ℕ → Objective → Mode → DenominatorChoice → ℕ → ℕ → Bool → BoundSettings
bound_settings capacity objective mode denominator warmup version writes =
    record { terms = record { objective = objective; capacity = capacity; warmup = warmup }; mode = mode; denominator = denominator; version = version; writes = writes }

-- the settings of bounds of a trace of this form, with its time to live if it has one
abbrev pub bounds_with : Option ℕ → Format → BoundSettings → Settings
bounds_with None format asked = Bounds format asked
bounds_with (Some ttl) format asked = TtlBounds format ttl asked

-- the settings of a plan; in a demo every request counts, the certificate has the first version, and no written bytes are counted
abbrev pub settings_of : Plan → Settings
settings_of (plan.Bounds format capacity objective mode denominator warmup version writes) =
    bounds_with format.fresh.ttl format (bound_settings capacity objective mode denominator warmup version writes)
settings_of (plan.Check format) = Check format
settings_of (plan.Replay format capacity policy warmup writes flags) =
    Replay format (record { policy = policy; capacity = capacity; warmup = warmup; writes = writes; flags = flags })
settings_of (plan.Curve format) = Curve format
settings_of (plan.CapacityCurve format capacities objective denominator warmup) =
    CapacityCurve format capacities (record { objective = objective; denominator = denominator; warmup = warmup })
settings_of (plan.Sweep format capacities policies warmup delay) = Sweep format capacities policies (record { warmup = warmup; delay = delay })
settings_of (plan.Judge format capacity warmup writes) = Judge format (record { capacity = capacity; warmup = warmup; writes = writes })
settings_of (plan.Demo seed requests objects capacity objective mode denominator) =
    Demo (record { seed = seed; requests = requests; objects = objects }) (bound_settings capacity objective mode denominator 0 CERT_VERSION false)
settings_of plan.Upgrade = Upgrade
settings_of (plan.Refine format width) = Refine format width

-- the form of the trace and each setting are in their ranges
abbrev pub AreSettingsInRange : Settings → Type 0
AreSettingsInRange (Bounds format asked) = IsFormat format × AreBoundSettingsInRange asked
AreSettingsInRange (TtlBounds format ttl asked) = IsFormat format × (format.fresh.ttl ≡ Some ttl) × AreBoundSettingsInRange asked
AreSettingsInRange (Check format) = IsFormat format
AreSettingsInRange (Replay format asked) = IsFormat format × AreReplaySettingsInRange asked
AreSettingsInRange (Curve format) = IsFormat format
AreSettingsInRange (CapacityCurve format capacities asked) = IsFormat format × (1 ≤ asked.denominator) × (asked.denominator ≤ 2 ^ 48) × (asked.warmup ≤ 2 ^ 25)
AreSettingsInRange (Sweep format capacities policies asked) = IsFormat format
AreSettingsInRange (Judge format asked) = IsFormat format × (1 ≤ asked.capacity) × (asked.capacity ≤ 2 ^ 56) × (asked.warmup ≤ 2 ^ 25)
AreSettingsInRange (Demo drawing asked) = AreDrawSettingsInRange drawing × AreBoundSettingsInRange asked
AreSettingsInRange Upgrade = Unit {0}
AreSettingsInRange (Refine format width) = IsFormat format × (1 ≤ width) × (width ≤ 2 ^ 25)

-- the settings of the plan are in their ranges
abbrev pub IsPlanInRange : Plan → Type 0
IsPlanInRange asked = AreSettingsInRange (settings_of asked)

-- the plan of bounds that accepted operands give, if the words end before this place
abbrev pub bounds_plan : ℕ → List (List ℕ) → Result Plan WordFault
bounds_plan end operands = do
  format ← required end (format_given operands)
  capacity ← required end (capacity_given operands)
  Ok (plan.Bounds format capacity (objective_given operands) (mode_given operands) (denominator_given (mode_given operands) operands)
      (warmup_given operands) (version_given operands) (writes_given operands))

-- the plan of a replay that accepted operands give, if the words end before this place
abbrev pub replay_plan : ℕ → List (List ℕ) → Result Plan WordFault
replay_plan end operands = do
  format ← required end (format_given operands)
  capacity ← required end (capacity_given operands)
  policy ← required end (policy_given operands)
  Ok (plan.Replay format capacity policy (warmup_given operands) (writes_given operands) (flags_given operands))

-- the plan of a curve that accepted operands give, if the words end before this place
abbrev pub curve_plan : ℕ → List (List ℕ) → Result Plan WordFault
curve_plan end operands = do
  format ← required end (format_given operands)
  Ok (plan.Curve format)

-- the plan of a curve over capacities that accepted operands give, if the words end before this place
abbrev pub capacity_curve_plan : ℕ → List (List ℕ) → Result Plan WordFault
capacity_curve_plan end operands = do
  format ← required end (format_given operands)
  capacities ← required end (capacities_given operands)
  Ok (plan.CapacityCurve format capacities (objective_given operands) (number_given operands) (warmup_given operands))

-- the plan of a sweep that accepted operands give, if the words end before this place
abbrev pub sweep_plan : ℕ → List (List ℕ) → Result Plan WordFault
sweep_plan end operands = do
  format ← required end (format_given operands)
  capacities ← required end (capacities_given operands)
  Ok (plan.Sweep format capacities (policies_given operands) (long_warmup_given operands) (delay_given operands))

-- the plan of a demo that accepted operands give, none of which is required
abbrev pub demo_plan : List (List ℕ) → Plan
demo_plan operands =
    plan.Demo (seed_given operands) (requests_given operands) (objects_given operands) (capacity_or_usual operands)
    (objective_given operands) (mode_given operands) (denominator_given (mode_given operands) operands)

-- whether a path is that of standard input
abbrev pub is_dash : Option (List ℕ) → Bool
is_dash None = false
is_dash (Some word) = bytes_eq word (codes "-")

-- trace and certificate, which stand at these words, can't both be standard input
abbrev pub inputs_fault : Option ℕ → Option ℕ → List (List ℕ) → Option WordFault
inputs_fault (Some trace) (Some beside) words =
    if is_dash (slice_get words trace) && is_dash (slice_get words beside) then Some (fault (beside + 1) BadValue) else None
inputs_fault trace beside words = None

-- the plan of a check, if the operands are accepted
abbrev pub check_plan : PathPlaces → List (List ℕ) → List (List ℕ) → Result Plan WordFault
check_plan places words operands = do
  format ← required (length words + 1) (format_given operands)
  apart ← passed (inputs_fault places.trace places.beside words)
  Ok (plan.Check format)

-- the plan of claimed hits, if the operands are accepted
abbrev pub judge_plan : PathPlaces → List (List ℕ) → List (List ℕ) → Result Plan WordFault
judge_plan places words operands = do
  format ← required (length words + 1) (format_given operands)
  capacity ← required (length words + 1) (capacity_given operands)
  apart ← passed (inputs_fault places.trace places.beside words)
  Ok (plan.Judge format capacity (warmup_given operands) (writes_given operands))

-- the plan of a refinement, if the operands are accepted
abbrev pub refine_plan : PathPlaces → List (List ℕ) → List (List ℕ) → Result Plan WordFault
refine_plan places words operands = do
  format ← required (length words + 1) (format_given operands)
  width ← required (length words + 1) (width_given operands)
  apart ← passed (inputs_fault places.trace places.beside words)
  Ok (plan.Refine format width)

-- the plan of a command, if the operands are accepted
abbrev pub plan_of_command : Command → List (List ℕ) → List (List ℕ) → Result Plan WordFault
plan_of_command command.Bounds words operands = bounds_plan (length words + 1) operands
plan_of_command command.Check words operands = check_plan (places_of command.Check) words operands
plan_of_command command.Replay words operands = replay_plan (length words + 1) operands
plan_of_command command.Curve words operands = curve_plan (length words + 1) operands
plan_of_command command.CapacityCurve words operands = capacity_curve_plan (length words + 1) operands
plan_of_command command.Sweep words operands = sweep_plan (length words + 1) operands
plan_of_command command.Judge words operands = judge_plan (places_of command.Judge) words operands
plan_of_command command.Demo words operands = Ok (demo_plan operands)
plan_of_command command.Upgrade words operands = Ok plan.Upgrade
plan_of_command command.Refine words operands = refine_plan (places_of command.Refine) words operands
