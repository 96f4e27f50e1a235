-- Potentials lowered by the distances of a search, and the tight edges that lead back to the first node.
use Rattle.std.proofs.Common.{◌≡◌, ◌≢◌, ℕ, List, suc, zero, ◌+◌, ◌-◌, ◌<◌, ◌≤◌, ap, min, arith, slice_index}
use Rattle.flow_model.specs.declared.edges.Edge.{Edge}
use Rattle.flow_model.specs.declared.edges.Edge.TheVariants.{Inner}
use Rattle.flow_model.specs.Networks.{tail, head, gain, loss, residual, IsEdge}
use Rattle.flow_model.specs.Pushes.{edge_at}
use Rattle.flow_network.specs.States.{State, IsState}
use Rattle.flow_parts.specs.Searches.{IsTightParent}
use Rattle.flow_parts.proofs.Trees.{parent_is_tight}
use Rattle.flow_solver.specs.Searches.{FoundToLast, AreLoweredToLast, IsReady, IsSearchToLast, IsSettledToLast, LeadsBackToFirst, above_first, limit_of}
use Rattle.flow_parts.proofs.EdgeLists.{ends_within}

-- the distance as far as it matters
abbrev pub within_limit : State → FoundToLast → ℕ → ℕ
within_limit state found node = min (limit_of state found.distances) (slice_index found.distances node)

-- along an edge with room the distance grows by no more than its length, as far as it matters
pub grows : (state : State) (found : FoundToLast) (e : Edge) → IsReady state → ((e : Edge) → IsEdge state.instance e → IsSettledToLast state found.distances e) → IsEdge state.instance e → 0 < residual state.instance state.flows e
    → within_limit state found (head state.instance.arcs e) + (gain state.instance.arcs e + slice_index state.potentials (head state.instance.arcs e))
    ≤ within_limit state found (tail state.instance.arcs e) + (loss state.instance.arcs e + slice_index state.potentials (tail state.instance.arcs e))
grows state found e ready settled is_edge room = omega (arith, settled e is_edge room, ready.valid e is_edge room)

-- the distances grow from the first node by no more than the potential falls, so the last node was found
within_first : (state : State) (found : FoundToLast) (node : ℕ) → IsReady state → IsSearchToLast state found → ((e : Edge) → IsEdge state.instance e → IsSettledToLast state found.distances e) → node ≤ state.instance.steps
    → within_limit state found node + slice_index state.potentials node ≤ slice_index state.potentials 0
within_first state found zero ready search settled h = omega (arith, search.tree.start)
within_first state found (suc k) ready search settled h =
    let next : k + 1 ≡ suc k = omega arith in
    omega (
      arith,
      within_first state found k ready search settled (omega arith),
      grows state found (Inner k) ready settled (omega arith) ready.fits.in_range.some_units,
      ap (slice_index found.distances) next,
      ap (slice_index state.potentials) next,
    )

-- no potential is lowered below 0
pub enough : (state : State) (found : FoundToLast) (left node : ℕ) → IsReady state → ((e : Edge) → IsEdge state.instance e → IsSettledToLast state found.distances e) → node + left ≡ state.instance.steps
    → limit_of state found.distances ≤ slice_index state.potentials node + within_limit state found node
enough state found zero node ready settled same = let e : node ≡ state.instance.steps = omega arith in omega (arith, ap (slice_index found.distances) e)
enough state found (suc left) node ready settled same =
    omega (arith, enough state found left (node + 1) ready settled (omega arith), grows state found (Inner node) ready settled (omega arith) ready.fits.in_range.some_units)

pub enough_at : (state : State) (found : FoundToLast) (node : ℕ) → IsReady state → ((e : Edge) → IsEdge state.instance e → IsSettledToLast state found.distances e) → node ≤ state.instance.steps
    → limit_of state found.distances ≤ slice_index state.potentials node + within_limit state found node
enough_at state found node ready settled h = enough state found (state.instance.steps - node) node ready settled (omega arith)

-- the lowered potentials are potentials
pub ready_lowered : (state : State) (found : FoundToLast) (potentials : List ℕ) → IsReady state → ((e : Edge) → IsEdge state.instance e → IsSettledToLast state found.distances e)
    → IsState (record state { potentials = potentials }) → AreLoweredToLast state found.distances potentials → IsReady (record state { potentials = potentials })
ready_lowered state found potentials ready settled fits low =
    record {
      fits = fits;
      valid = λ e is_edge room.
          let ends = ends_within state.instance ready.fits.in_range e is_edge in
          omega (
            arith,
            grows state found e ready settled is_edge room,
            low (head state.instance.arcs e) ends.1,
            low (tail state.instance.arcs e) ends.0,
            enough_at state found (head state.instance.arcs e) ready settled ends.1,
            enough_at state found (tail state.instance.arcs e) ready settled ends.0,
          );
      ends = omega (arith, low state.instance.steps (omega arith), ready.ends);
    }

-- under the lowered potentials, tight edges lead back from each node within the limit
pub leads_back : (state : State) (found : FoundToLast) (potentials : List ℕ) → IsReady state → IsSearchToLast state found → ((e : Edge) → IsEdge state.instance e → IsSettledToLast state found.distances e)
    → AreLoweredToLast state found.distances potentials → LeadsBackToFirst (record state { potentials = potentials }) found
leads_back state found potentials ready search settled low =
    record { from_within = omega arith; each_parent = search.tree.each_parent; tight_parents = (search.tree.found_by.0, tight_parent) }
  where
    tight_parent : (node : ℕ) → node ≢ 0 → node ≤ state.instance.steps → slice_index found.distances node ≤ limit_of state found.distances
        → IsTightParent state.instance state.flows (slice_index potentials) found.distances (limit_of state found.distances) search.tree.found_by.0 (edge_at found.parents node) node
    tight_parent node other within near =
        let e : Edge = edge_at found.parents node in
        let last_found : limit_of state found.distances < above_first state = omega (arith, within_first state found state.instance.steps ready search settled (omega arith)) in
        let parent = search.tree.found_by.1 node other within (omega (arith, near, last_found)) in
        let ends = ends_within state.instance ready.fits.in_range e parent.is_edge in
        parent_is_tight state.instance state.flows state.potentials found.distances (limit_of state found.distances) (slice_index potentials) search.tree.found_by.0 e node
        parent (ready.valid e parent.is_edge) (settled e parent.is_edge) near (low (head state.instance.arcs e) ends.1) (low (tail state.instance.arcs e) ends.0)
        (enough_at state found (head state.instance.arcs e) ready settled ends.1) (enough_at state found (tail state.instance.arcs e) ready settled ends.0)
