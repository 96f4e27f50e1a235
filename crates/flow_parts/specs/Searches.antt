-- A search for how far nodes are from one of them: the length of an edge with room is its negated reduced cost.
use Rattle.std.specs.Prelude.{◌≡◌, ◌≢◌, ℕ, ◌+◌, ◌-◌, ◌<◌, ◌≤◌, min, List, length, slice_index}
use Rattle.flow_model.specs.declared.arcs.OuterArc.{OuterArc}
use Rattle.flow_model.specs.declared.edges.Edge.{Edge}
use Rattle.flow_model.specs.Instances.{Instance}
use Rattle.flow_model.specs.Networks.{Flows, tail, head, gain, loss, residual, IsEdge, IsTight}
use Rattle.flow_model.specs.Pushes.{edge_at}

-- the distance and the potential at the edge's tail, with what the edge gives up
abbrev pub at_tail : List OuterArc → List ℕ → List ℕ → Edge → ℕ
at_tail arcs potentials distances e = slice_index distances (tail arcs e) + (loss arcs e + slice_index potentials (tail arcs e))

-- the distance and the potential at the edge's head, with what the edge earns; it is at most that at the tail where the
-- head is no farther than along the edge
abbrev pub at_head : List OuterArc → List ℕ → List ℕ → Edge → ℕ
at_head arcs potentials distances e = slice_index distances (head arcs e) + (gain arcs e + slice_index potentials (head arcs e))

-- within the limit the edge makes its head no nearer
abbrev pub IsSettled : Instance → Flows → List ℕ → List ℕ → ℕ → Edge → Type 0
IsSettled instance flows potentials distances limit e =
    0 < residual instance flows e
    → min limit (slice_index distances (head instance.arcs e)) + (gain instance.arcs e + slice_index potentials (head instance.arcs e))
    ≤ at_tail instance.arcs potentials distances e

-- the edge leads to the node, with room; the node is no nearer than along the edge, and if it is just as far, the tail was
-- found before
pub record IsParent (instance : Instance) (flows : Flows) (potentials distances : List ℕ) (times : ℕ → ℕ) (e : Edge) (node : ℕ) : Type 0 where
  pub is_edge : IsEdge instance e
  pub room : 0 < residual instance flows e
  pub leads : head instance.arcs e ≡ node
  pub along : at_tail instance.arcs potentials distances e ≤ at_head instance.arcs potentials distances e
  pub earlier : at_tail instance.arcs potentials distances e ≡ at_head instance.arcs potentials distances e → times (tail instance.arcs e) < times node

-- each node that was found, but the first, was found by its parent, at some time; a node that was not found is `far`
pub record IsTree (instance : Instance) (flows : Flows) (potentials : List ℕ) (from far : ℕ) (distances : List ℕ) (parents : List Edge) : Type 0 where
  pub each_distance : instance.steps + 1 ≤ length distances
  pub each_parent : instance.steps + 1 ≤ length parents
  pub from_within : from ≤ instance.steps
  pub start : slice_index distances from ≡ 0
  pub small : (node : ℕ) → node ≤ instance.steps → slice_index distances node ≤ far
  pub found_by : (times : ℕ → ℕ)
      × ((node : ℕ) → node ≢ from → node ≤ instance.steps → slice_index distances node < far → IsParent instance flows potentials distances times (edge_at parents node) node)

-- the potential less what the node is nearer than the limit
abbrev pub lowered : List ℕ → List ℕ → ℕ → ℕ → ℕ
lowered potentials distances limit node = slice_index potentials node + min limit (slice_index distances node) - limit

-- each potential was lowered
abbrev pub AreLowered : ℕ → List ℕ → List ℕ → ℕ → List ℕ → Type 0
AreLowered steps potentials distances limit low = (node : ℕ) → node ≤ steps → slice_index low node ≡ lowered potentials distances limit node

-- the edge is tight and leads to the node, from a node within the limit that was found before
pub record IsTightParent (instance : Instance) (flows : Flows) (potential : ℕ → ℕ) (distances : List ℕ) (limit : ℕ) (times : ℕ → ℕ) (e : Edge) (node : ℕ) : Type 0 where
  pub tight : IsTight instance flows potential e
  pub leads : head instance.arcs e ≡ node
  pub near : slice_index distances (tail instance.arcs e) ≤ limit
  pub earlier : times (tail instance.arcs e) < times node

-- tight edges lead back to where the search began from each node within the limit
pub record LeadsBack (instance : Instance) (flows : Flows) (potential : ℕ → ℕ) (from limit : ℕ) (distances : List ℕ) (parents : List Edge) : Type 0 where
  pub from_within : from ≤ instance.steps
  pub each_parent : instance.steps + 1 ≤ length parents
  pub tight_parents : (times : ℕ → ℕ)
      × ((node : ℕ) → node ≢ from → node ≤ instance.steps → slice_index distances node ≤ limit → IsTightParent instance flows potential distances limit times (edge_at parents node) node)
