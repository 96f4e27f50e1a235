-- How a round ends, and how the last one does.
use Rattle.std.proofs.Common.{◌≡◌, ℕ, ◌+◌, List, length, slice_index, subst, All}
use Rattle.flow_model.specs.declared.edges.Edge.{Edge}
use Rattle.flow_model.specs.Instances.{IsSolution}
use Rattle.flow_model.specs.Networks.{IsBalanced, IsTight, ArePrices}
use Rattle.flow_model.specs.Pushes.{push_path}
use Rattle.flow_model.proofs.Equal.{equal_values}
use Rattle.flow_model.proofs.Pushes.{push_path-potential}
use Rattle.flow_network.specs.States.{State, IsState}
use Rattle.flow_network.proofs.Pushed.{state_lengths}
use Rattle.flow_solver.specs.Searches.{IsReady}

-- a push along tight edges leaves no positive reduced cost on an edge with room
pub ready_after_push : (state : State) (path : List Edge) (amount : ℕ) → IsReady state → All (IsTight state.instance state.flows (slice_index state.potentials)) path
    → IsState (record state { flows = push_path amount state.flows path; pushed = state.pushed + amount })
    → IsReady (record state { flows = push_path amount state.flows path; pushed = state.pushed + amount })
ready_after_push state path amount ready tight fits =
    record {
      fits = fits;
      valid = push_path-potential state.instance state.flows path amount (slice_index state.potentials) (state_lengths state ready.fits) ready.valid tight;
      ends = ready.ends;
    }

-- all units are pushed
pub solved : (state : State) (prices : List ℕ) → IsReady state → state.pushed ≡ state.instance.units → length prices ≡ state.instance.steps → ArePrices (slice_index state.potentials) prices
    → IsSolution state.instance prices state.flows.outer
solved state prices ready all each are =
    let balanced : IsBalanced state.instance state.flows state.instance.units = subst (λ (n : ℕ). IsBalanced state.instance state.flows n) all ready.fits.balanced in
    let fits = ready.fits.in_range in
    equal_values state.instance state.flows (slice_index state.potentials) prices fits.arcs_fit fits.some_units each balanced ready.valid are
