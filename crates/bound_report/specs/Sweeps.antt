-- The lines of a sweep.
use Rattle.std.specs.Prelude.{ℕ, ◌==◌, if◌then◌else◌, List, [], ◌∷◌, ◌++◌, codes, flat_map}
use Rattle.cache_model.specs.Texts.{entry, objective_word}
use Rattle.cache_model.specs.declared.objects.Objective.{Objective}
use Rattle.cache_model.specs.declared.objects.Objective.TheVariants.{Object as Hits, Bytes}
use Rattle.area_sums.specs.declared.bound.EdgeBound.{EdgeBound}
use Rattle.area_sums.specs.Bounds.{floor_of}
use Rattle.policy_model.specs.Names.{policy_word}
use Rattle.policy_sweep.specs.declared.running.PolicyReplay.{PolicyReplay}
use Rattle.bound_report.specs.Rendering.{Lines}
use Rattle.bound_report.specs.Reports.{ratio, trace_line}
use Rattle.bound_report.specs.declared.sweeps.SweepFacts.{SweepFacts}
use Rattle.trace_sweep.specs.declared.points.SweepPoint.{SweepPoint}

-- how many capacities and policies there are
abbrev pub sweep_line : ℕ → ℕ → List ℕ
sweep_line capacities policies = entry (entry (codes "sweep capacities") capacities ++ codes " policies") policies

-- a line of the delay, if there is one
abbrev pub delay_lines : ℕ → List (List ℕ)
delay_lines delay = if delay == 0 then [] else entry (codes "delay") delay ∷ []

-- a capacity, the objective, and the upper bound over its edge with its floor
abbrev pub bound_line : ℕ → Objective → EdgeBound → List ℕ
bound_line capacity objective bound =
    let named = entry (codes "capacity") capacity ++ codes " " ++ objective_word objective in
    entry (ratio (named ++ codes " upper") bound.upper bound.edge ++ codes " floor") (floor_of bound)

-- the bounds of a capacity: that of hits, and that of their bytes
abbrev pub bound_lines : SweepPoint → List (List ℕ)
bound_lines point =
    bound_line point.capacity Hits point.bounds.hits ∷ bound_line point.capacity Bytes point.bounds.bytes ∷ []

-- a capacity, a policy, and its hits with their bytes and what it writes
abbrev pub counts_line : PolicyReplay → List ℕ
counts_line r =
    let named = entry (codes "capacity") r.capacity ++ codes " policy " ++ policy_word r.policy in
    entry (entry (entry (named ++ codes " hits") r.counts.hits ++ codes " bytes") r.counts.bytes ++ codes " writes") r.counts.written

-- a line of what a policy counts, if that is at this capacity
abbrev pub counts_lines : ℕ → PolicyReplay → List (List ℕ)
counts_lines capacity r = if r.capacity == capacity then counts_line r ∷ [] else []

-- the lines of a capacity: its bounds, and what each policy counts there
abbrev pub capacity_lines : List PolicyReplay → SweepPoint → List (List ℕ)
capacity_lines replays point = bound_lines point ++ flat_map (counts_lines point.capacity) replays

-- the lines of a sweep: the counts of the trace, how many capacities and policies there are and the delay, and the lines of each capacity
abbrev pub sweep_lines : SweepFacts → List SweepPoint → List PolicyReplay → Lines
sweep_lines facts points replays = record {
  front = trace_line facts.requests facts.objects facts.dropped ∷ [];
  head = sweep_line facts.capacities facts.policies ∷ delay_lines facts.delay;
  back = flat_map (capacity_lines replays) points;
}
