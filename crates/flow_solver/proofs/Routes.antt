-- Routes from a node within the limit to the last one.
use Rattle.std.proofs.Common.{◌≡◌, ℕ, subst, List, slice_index}
use Rattle.flow_model.specs.declared.edges.Edge.{Edge}
use Rattle.flow_model.specs.Pushes.{Leads, CanPush}
use Rattle.flow_network.specs.States.{State}
use Rattle.flow_parts.proofs.Routes.{IsRoute, route_is_simple}
use Rattle.flow_solver.specs.Searches.{FoundToLast, limit_of}

-- tight edges lead from the node to the last one, each with room for the amount
abbrev pub IsRouteToLast : State → FoundToLast → ℕ → List Edge → ℕ → Type 0
IsRouteToLast state found node path amount =
    IsRoute state.instance state.flows (slice_index state.potentials) 0 state.instance.steps (limit_of state found.distances) found.distances found.parents node path amount

-- back at the first node
pub route_ends : (state : State) (found : FoundToLast) (node : ℕ) (path : List Edge) (amount : ℕ) → IsRouteToLast state found node path amount → node ≡ 0 → CanPush state.instance state.flows path amount
route_ends state found node path amount route first =
    record {
      leads = subst (λ (k : ℕ). Leads state.instance.arcs k path state.instance.steps) first route.leads;
      edges = λ k d h. (route.tight k d h).is_edge;
      room = route.room;
      simple = route_is_simple route;
    }
