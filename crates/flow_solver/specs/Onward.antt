-- Paths whose edges each lead to a later node.
use Rattle.std.specs.Prelude.{◌≡◌, ℕ, ◌<◌, ◌≤◌, List, slice_index, All}
use Rattle.flow_model.specs.declared.edges.Edge.{Edge}
use Rattle.flow_model.specs.Networks.{tail, head, IsTight}
use Rattle.flow_model.specs.Pushes.{Leads}
use Rattle.flow_network.specs.States.{State}

-- the edge is tight, and leads from the node to a later one
pub record LeadsOn (state : State) (node : ℕ) (e : Edge) : Type 0 where
  pub tight : IsTight state.instance state.flows (slice_index state.potentials) e
  pub from : tail state.instance.arcs e ≡ node
  pub later : tail state.instance.arcs e < head state.instance.arcs e
  pub within : head state.instance.arcs e ≤ state.instance.steps

-- tight edges lead from the first node to this one, each to a later node
pub record IsOnward (state : State) (node : ℕ) (path : List Edge) : Type 0 where
  pub leads : Leads state.instance.arcs 0 path node
  pub tight : All (IsTight state.instance state.flows (slice_index state.potentials)) path
  pub later : All (λ e. tail state.instance.arcs e < head state.instance.arcs e) path
