-- What the arcs hold: their flows, how much of them leaves at each node, and those that have flow by their ends.
use Rattle.std.specs.Prelude.{◌≡◌, ◌≢◌, ℕ, ◌+◌, ◌-◌, ◌^◌, ◌<◌, ◌≤◌, List, Some, length, slice_index}
use Rattle.flow_model.specs.declared.arcs.OuterArc.{OuterArc}
use Rattle.flow_model.specs.Instances.{Instance, arc_at}
use Rattle.flow_parts.specs.Ranks.{Ranks, rank_at}
use Rattle.flow_uniform.specs.Cuts.{flow_where, ends_at}

-- the flow of each arc, the flow that ends at each node, and the arcs that may lose flow with their ranks
pub record Holding : Type 0 where
  pub flows : List ℕ
  pub leaving : List ℕ
  pub ranks : Ranks

-- what has these parts
abbrev pub holding_of : List ℕ → List ℕ → Ranks → Holding
holding_of flows leaving ranks = record { flows = flows; leaving = leaving; ranks = ranks }

-- the rank of an arc is how far before the last node it ends
abbrev pub rank_of : Instance → ℕ → ℕ
rank_of instance i = instance.steps - (arc_at instance.arcs i).end

-- the sums are right, and the arcs that have flow have their ranks, but maybe the one that is out
pub record IsHeld (instance : Instance) (held : Holding) (out : ℕ) : Type 0 where
  pub each_arc : length held.flows ≡ length instance.arcs
  pub each_node : length held.leaving ≡ instance.steps + 1
  pub each_key : length held.ranks ≡ length instance.arcs
  pub low : (i : ℕ) → i < length instance.arcs → slice_index held.flows i ≤ 2 ^ 48
  pub leaving : (node : ℕ) → node ≤ instance.steps → slice_index held.leaving node ≡ flow_where (ends_at node) instance.arcs held.flows
  pub ranked : (i : ℕ) → i < length instance.arcs → i ≢ out → 0 < slice_index held.flows i → rank_at held.ranks i ≡ Some (rank_of instance i)
  pub holds : (i rank : ℕ) → i ≢ out → rank_at held.ranks i ≡ Some rank → (0 < slice_index held.flows i) × (rank ≡ rank_of instance i)

-- the one arc has its weight as flow if it costs something, and the others what they had
pub record EntersOne (arcs : List OuterArc) (i : ℕ) (old new : List ℕ) : Type 0 where
  pub whole : 0 < (arc_at arcs i).cost → slice_index new i ≡ (arc_at arcs i).weight
  pub nothing : (arc_at arcs i).cost ≡ 0 → slice_index new i ≡ 0
  pub others : (j : ℕ) → j ≢ i → slice_index new j ≡ slice_index old j

-- the arcs that start at the step have their weights as flows if they cost something, and the others what they had
pub record Enter (arcs : List OuterArc) (t : ℕ) (old new : List ℕ) : Type 0 where
  pub each_arc : length new ≡ length arcs
  pub whole : (i : ℕ) → i < length arcs → (arc_at arcs i).start ≡ t → 0 < (arc_at arcs i).cost → slice_index new i ≡ (arc_at arcs i).weight
  pub nothing : (i : ℕ) → i < length arcs → (arc_at arcs i).start ≡ t → (arc_at arcs i).cost ≡ 0 → slice_index new i ≡ 0
  pub others : (i : ℕ) → i < length arcs → (arc_at arcs i).start ≢ t → slice_index new i ≡ slice_index old i
