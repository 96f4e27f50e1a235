-- What a solver begins with.
use Rattle.std.specs.Prelude.{◌≡◌, ℕ, ◌+◌, ◌*◌, Bool, List, length}
use Rattle.flow_network.specs.States.{State}
use Rattle.flow_parts.specs.OuterEdges.{Lists, AreListed}
use Rattle.flow_solver.specs.Searches.{FoundToLast, HasSearchRoom, IsReady}

-- the network is ready, the outer edges are listed, and there is room for a search, for a mark of each node and for an edge of each step
pub record IsAtStart (state : State) (lists : Lists) (found : FoundToLast) (dead : List Bool) (path : ℕ) : Type 0 where
  pub ready : IsReady state
  pub edges : AreListed state.instance lists (2 * length state.instance.arcs)
  pub room : HasSearchRoom state.instance.steps found
  pub marks : length dead ≡ state.instance.steps + 1
  pub path_room : path ≡ state.instance.steps
