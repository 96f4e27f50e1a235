-- A search for the distance of each node from the first: the length of an edge with room is its negated reduced cost.
use Rattle.std.specs.Prelude.{◌≡◌, ◌≢◌, ℕ, ◌+◌, ◌*◌, ◌^◌, ◌<◌, ◌≤◌, ◌⊎◌, min, List, length, slice_index, slice_set, sum}
use Rattle.flow_model.specs.declared.edges.Edge.{Edge}
use Rattle.flow_model.specs.Networks.{tail, IsEdge, IsPotential}
use Rattle.flow_network.specs.States.{State, IsState}
use Rattle.flow_parts.specs.OuterEdges.{edge_of, tail_of}
use Rattle.flow_parts.specs.Queues.{Waiting, IsQueue}
use Rattle.flow_parts.specs.Searches.{AreLowered, IsSettled, IsTree, LeadsBack}

-- how far each node is by a walk that was found, the last edge of that walk, and the nodes that wait for their edges to be
-- looked at: some in a queue, and some at the front of a list, which come next
pub record FoundToLast : Type 0 where
  pub distances : List ℕ
  pub parents : List Edge
  pub waiting : Waiting
  pub stack : List ℕ
  pub depth : ℕ

-- the node is at that distance, by a walk that ends with that edge
abbrev pub found_at : FoundToLast → ℕ → ℕ → Edge → FoundToLast
found_at found node distance e = record found { distances = slice_set found.distances node distance; parents = slice_set found.parents node e }

-- the node waits neither in the queue nor at the front of the list
pub record WaitsNowhere (found : FoundToLast) (node : ℕ) : Type 0 where
  pub unqueued : slice_index found.waiting.places node ≡ 0
  pub unstacked : (p : ℕ) → p < found.depth → slice_index found.stack p ≢ node

-- a distance, a parent and a place for each node of this many steps
pub record HasSearchRoom (steps : ℕ) (found : FoundToLast) : Type 0 where
  pub distances : length found.distances ≡ steps + 1
  pub parents : length found.parents ≡ steps + 1
  pub nodes : length found.waiting.nodes ≡ steps + 1
  pub places : length found.waiting.places ≡ steps + 1
  pub stack : length found.stack ≤ 2 ^ 26

-- no edge with room has a positive reduced cost, and the last node's potential is 0
pub record IsReady (state : State) : Type 0 where
  pub fits : IsState state
  pub valid : IsPotential state.instance state.flows (slice_index state.potentials)
  pub ends : slice_index state.potentials state.instance.steps ≡ 0

-- the distance of the last node, beyond which no other matters
abbrev pub limit_of : State → List ℕ → ℕ
limit_of state distances = slice_index distances state.instance.steps

-- within the distance of the last node, the edge makes its head no nearer
abbrev pub IsSettledToLast : State → List ℕ → Edge → Type 0
IsSettledToLast state distances e = IsSettled state.instance state.flows state.potentials distances (limit_of state distances) e

-- the distance of a node that was not found: farther than any walk
abbrev pub above_first : State → ℕ
above_first state = slice_index state.potentials 0 + 1

-- a tree of the nodes that were found, a queue by their distances, and a stack of nodes
pub record IsSearchToLast (state : State) (found : FoundToLast) : Type 0 where
  pub tree : IsTree state.instance state.flows state.potentials 0 (above_first state) found.distances found.parents
  pub each_distance : length found.distances ≡ state.instance.steps + 1
  pub each_parent : length found.parents ≡ state.instance.steps + 1
  pub queue : IsQueue found.waiting found.distances
  pub small_stack : length found.stack ≤ 2 ^ 26
  pub stack_fits : found.depth ≤ length found.stack
  pub stacked : (p : ℕ) → p < found.depth → slice_index found.stack p ≤ state.instance.steps

-- the node waits, and all else is as it was
pub record Enters (old new : FoundToLast) (node : ℕ) : Type 0 where
  pub distances : new.distances ≡ old.distances
  pub parents : new.parents ≡ old.parents
  pub places : length new.waiting.places ≡ length old.waiting.places
  pub stack : length new.stack ≡ length old.stack
  pub fits : new.depth ≤ length old.stack
  pub more : new.waiting.count + new.depth ≤ old.waiting.count + old.depth + 1
  pub stacked : (p : ℕ) → p < new.depth → (slice_index new.stack p ≡ node) ⊎ ((p < old.depth) × (slice_index new.stack p ≡ slice_index old.stack p))
  pub waits : WaitsNowhere new node → ⊥
  pub rests : (other : ℕ) → WaitsNowhere new other → WaitsNowhere old other

-- the edges out of nodes that wait nowhere are settled
abbrev pub AreSettledToLast : State → FoundToLast → Type 0
AreSettledToLast state found = (e : Edge) → IsEdge state.instance e → WaitsNowhere found (tail state.instance.arcs e) → IsSettledToLast state found.distances e

-- once the node waits nowhere, all edges out of it are settled
abbrev pub IsDoneAt : State → FoundToLast → ℕ → Type 0
IsDoneAt state found node = WaitsNowhere found node → (e : Edge) → IsEdge state.instance e → tail state.instance.arcs e ≡ node → IsSettledToLast state found.distances e

-- once the node waits nowhere, the arcs and the back edges of arcs that lead out of it are settled
abbrev pub AreArcsDoneAt : State → FoundToLast → ℕ → Type 0
AreArcsDoneAt state found node =
    WaitsNowhere found node → (k : ℕ) → k < 2 * length state.instance.arcs → tail_of state.instance.arcs k ≡ node → IsSettledToLast state found.distances (edge_of (length state.instance.arcs) k)

-- less with each node that is taken, and with each distance that falls where its node begins to wait
abbrev pub work_left : FoundToLast → ℕ
work_left found = 2 * sum found.distances + (found.waiting.count + found.depth)

-- distances only fell, and the nodes whose distance fell wait; so edges out of nodes that wait nowhere stay settled
pub record NearsToLast (state : State) (old new : FoundToLast) : Type 0 where
  pub search : IsSearchToLast state new
  pub rests : (node : ℕ) → WaitsNowhere new node → WaitsNowhere old node
  pub stays : (e : Edge) → IsEdge state.instance e → WaitsNowhere new (tail state.instance.arcs e) → IsSettledToLast state old.distances e → IsSettledToLast state new.distances e
  pub falls : work_left new ≤ work_left old

-- tight edges lead back to the first node from each node that is no farther than the last
abbrev pub LeadsBackToFirst : State → FoundToLast → Type 0
LeadsBackToFirst state found = LeadsBack state.instance state.flows (slice_index state.potentials) 0 (limit_of state found.distances) found.distances found.parents

-- each potential was lowered by what its node is nearer than the last
abbrev pub AreLoweredToLast : State → List ℕ → List ℕ → Type 0
AreLoweredToLast state distances low = AreLowered state.instance.steps state.potentials distances (limit_of state distances) low

-- no potential is lowered below 0
abbrev pub CanLowerToLast : State → List ℕ → Type 0
CanLowerToLast state distances =
    (node : ℕ) → node ≤ state.instance.steps → limit_of state distances ≤ slice_index state.potentials node + min (limit_of state distances) (slice_index distances node)
