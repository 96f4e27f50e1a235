-- Paths of edges, and pushes along them.
use Rattle.std.specs.Prelude.{◌≡◌, ◌≢◌, ℕ, ◌+◌, ◌-◌, ◌<◌, ◌≤◌, List, [], ◌∷◌, length, fold, slice_index, slice_index_or, slice_set, All}
use Rattle.flow_model.specs.declared.arcs.OuterArc.{OuterArc}
use Rattle.flow_model.specs.declared.edges.Edge.{Edge}
use Rattle.flow_model.specs.declared.edges.Edge.TheVariants.{Inner, InnerBack, Outer, OuterBack}
use Rattle.flow_model.specs.Instances.{Instance}
use Rattle.flow_model.specs.Networks.{Flows, tail, head, residual, IsEdge}

-- the back edge of a forward edge, and the forward edge of a back edge
abbrev pub opposite : Edge → Edge
opposite (Inner t) = InnerBack t
opposite (InnerBack t) = Inner t
opposite (Outer i) = OuterBack i
opposite (OuterBack i) = Outer i

-- a forward edge raises its flow by the amount, and a back edge lowers the flow behind it
abbrev pub push_edge : ℕ → Flows → Edge → Flows
push_edge amount flows (Inner t) = record flows { inner = slice_set flows.inner t (slice_index flows.inner t + amount) }
push_edge amount flows (InnerBack t) = record flows { inner = slice_set flows.inner t (slice_index flows.inner t - amount) }
push_edge amount flows (Outer i) = record flows { outer = slice_set flows.outer i (slice_index flows.outer i + amount) }
push_edge amount flows (OuterBack i) = record flows { outer = slice_set flows.outer i (slice_index flows.outer i - amount) }

-- the flows after the amount went along the path
abbrev pub push_path : ℕ → Flows → List Edge → Flows
push_path amount flows path = fold (push_edge amount) flows path

-- the edges lead from the one node to the other
abbrev pub Leads : List OuterArc → ℕ → List Edge → ℕ → Type 0
Leads arcs from [] to = from ≡ to
Leads arcs from (e ∷ path) to = (tail arcs e ≡ from) × Leads arcs (head arcs e) path to

-- one is neither the other nor its back edge
abbrev pub AreApart : Edge → Edge → Type 0
AreApart e f = (f ≢ e) × (f ≢ opposite e)

-- the edge at that place of a path
abbrev pub edge_at : List Edge → ℕ → Edge
edge_at path k = slice_index_or path k (Inner 0)

-- no edge stands twice nor beside its back edge
abbrev pub IsSimple : List Edge → Type 0
IsSimple path = (j k : ℕ) → j < k → k < length path → AreApart (edge_at path j) (edge_at path k)

-- a path from the first node to the last, along which the amount can be pushed
pub record CanPush (instance : Instance) (flows : Flows) (path : List Edge) (amount : ℕ) : Type 0 where
  pub leads : Leads instance.arcs 0 path instance.steps
  pub edges : All (IsEdge instance) path
  pub room : All (λ e. amount ≤ residual instance flows e) path
  pub simple : IsSimple path
