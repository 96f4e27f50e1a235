-- Where flows fail first to be a schedule.
use Rattle.std.specs.Prelude.{◌≡◌, ℕ, ◌<◌, nat_lt, if◌then◌else◌, List, slice_index, slice_index_or, Some, None}
use Rattle.std.specs.declared.option.Option.{Option}
use Rattle.cache_model.specs.declared.intervals.Interval.{Interval}
use Rattle.cache_model.specs.Units.{weight}
use Rattle.cache_model.specs.Schedules.{load_at}
use Rattle.interval_maker.specs.Timelines.{Timeline, starting_at, no_interval}
use Rattle.relaxation.specs.declared.flows.FlowFault.{FlowFault}
use Rattle.relaxation.specs.declared.flows.FlowFault.TheVariants.{AboveWeight, Overfull}

-- the weight of the interval of a number
abbrev pub weight_at : List Interval → ℕ → ℕ → ℕ
weight_at intervals unit n = weight unit (slice_index_or intervals n no_interval)

-- the flow of the interval of a number, and 0 of none
abbrev pub amount_of : List ℕ → Option ℕ → ℕ
amount_of flows None = 0
amount_of flows (Some n) = slice_index flows n

-- the flows over step t pass the units
abbrev pub load_fault : List Interval → ℕ → List ℕ → ℕ → Option FlowFault
load_fault intervals units flows t =
    if nat_lt units (load_at intervals flows t) then Some (Overfull t (load_at intervals flows t)) else None

-- the flow of the interval that starts at step t passes its weight, or else the flows over the step pass the units
abbrev pub fault_from : List Interval → ℕ → ℕ → List ℕ → ℕ → Option ℕ → Option FlowFault
fault_from intervals unit units flows t None = load_fault intervals units flows t
fault_from intervals unit units flows t (Some n) =
    if nat_lt (weight_at intervals unit n) (slice_index flows n) then Some (AboveWeight n) else load_fault intervals units flows t

-- what fails at step t, if anything
abbrev pub fault_at : List Interval → ℕ → ℕ → List ℕ → ℕ → Option FlowFault
fault_at intervals unit units flows t = fault_from intervals unit units flows t (starting_at intervals t)

-- this fails at some step, and nothing at a step before it
pub record IsFirstFault (line : Timeline) (unit units : ℕ) (flows : List ℕ) (fault : FlowFault) : Type 0 where
  pub step : ℕ
  pub within : step < line.steps
  pub fails : fault_at line.items unit units flows step ≡ Some fault
  pub none_before : (t : ℕ) → t < step → fault_at line.items unit units flows t ≡ None
