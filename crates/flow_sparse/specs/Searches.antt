-- A search for the distance of nodes from one of them, as far as the nearest that has an excess.
use Rattle.std.specs.Prelude.{◌≡◌, ◌≢◌, ◌⊎◌, ℕ, ◌+◌, ◌-◌, ◌*◌, ◌^◌, ◌<◌, ◌≤◌, ◌==◌, if◌then◌else◌, min, List, length, slice_index, sum}
use Rattle.flow_model.specs.declared.edges.Edge.{Edge}
use Rattle.flow_model.specs.Networks.{tail, head, residual, IsEdge, IsTight}
use Rattle.flow_model.specs.Pushes.{edge_at, opposite}
use Rattle.flow_parts.specs.Queues.{Waiting, Waits, IsPlaced, IsQueue}
use Rattle.flow_parts.specs.OuterEdges.{edge_of, tail_of}
use Rattle.flow_parts.specs.Searches.{IsSettled, IsTree, LeadsBack, lowered}
use Rattle.flow_sparse.specs.declared.edges.ListedEdge.{ListedEdge}
use Rattle.flow_sparse.specs.declared.edges.WokenEdge.{WokenEdge}
use Rattle.flow_sparse.specs.Ranges.{Ranges, IsPlacedAt, IsSound, AreSorted, AreChained, WasWoken, listed_at, number_of}
use Rattle.flow_sparse.specs.States.{State}

-- how far each node is by a walk that was found, the last edge of that walk, the nodes that wait for their edges to be looked
-- at, and the nearest node with an excess, with its distance as the limit beyond which no other matters
pub record Found : Type 0 where
  pub distances : List ℕ
  pub parents : List Edge
  pub waiting : Waiting
  pub limit : ℕ
  pub goal : ℕ

-- the node does not wait
abbrev pub Rests : Found → ℕ → Type 0
Rests found node = slice_index found.waiting.places node ≡ 0

-- the distance of a node that was not found: farther than any limit
abbrev pub far : ℕ
far = 2 ^ 125

-- within the limit the edge makes its head no nearer
abbrev pub IsSettledBy : State → Found → Edge → Type 0
IsSettledBy state found e = IsSettled state.instance state.flows state.potentials found.distances found.limit e

-- the goal has an excess, and is as far as the limit
pub record IsGoal (state : State) (found : Found) : Type 0 where
  pub within : found.goal ≤ state.instance.steps
  pub excess : 0 < slice_index state.excess found.goal
  pub at_limit : slice_index found.distances found.goal ≡ found.limit

-- a tree of the nodes that were found, a queue by their distances, and the nearest with an excess, if one was found
pub record IsSearch (state : State) (from : ℕ) (found : Found) : Type 0 where
  pub tree : IsTree state.instance state.flows state.potentials from far found.distances found.parents
  pub queue : IsQueue found.waiting found.distances
  pub waits : (node : ℕ) → Waits found.waiting node → node ≤ state.instance.steps
  pub small : found.limit ≤ far
  pub excess_is_past : (node : ℕ) → node ≤ state.instance.steps → 0 < slice_index state.excess node → found.limit ≤ slice_index found.distances node
  pub goal : found.limit < far → IsGoal state found

-- the edges out of nodes that don't wait are settled
abbrev pub AreSettled : State → Found → Type 0
AreSettled state found = (e : Edge) → IsEdge state.instance e → Rests found (tail state.instance.arcs e) → IsSettledBy state found e

-- distances and the limit only fell, and the nodes whose distance fell wait; so the distances of nodes that rest stay, and edges
-- out of them stay settled
pub record Nears (state : State) (from : ℕ) (old new : Found) : Type 0 where
  pub search : IsSearch state from new
  pub rests : (node : ℕ) → Rests new node → Rests old node
  pub same : (node : ℕ) → Rests new node → slice_index new.distances node ≡ slice_index old.distances node
  pub stays : (e : Edge) → IsEdge state.instance e → Rests new (tail state.instance.arcs e) → IsSettledBy state old e → IsSettledBy state new e
  pub falls : 2 * sum new.distances + new.waiting.count ≤ 2 * sum old.distances + old.waiting.count
  pub each_distance : length new.distances ≡ length old.distances
  pub each_parent : length new.parents ≡ length old.parents

-- no node waits, and there is room for a search over this many steps
pub record IsIdle (steps : ℕ) (found : Found) : Type 0 where
  pub each_distance : steps + 1 ≤ length found.distances
  pub each_parent : steps + 1 ≤ length found.parents
  pub each_place : length found.distances ≡ length found.waiting.places
  pub placed : IsPlaced found.waiting
  pub none_waits : found.waiting.count ≡ 0

-- there is as much room as before, and no node waits
pub record KeepsRoom (old new : Found) : Type 0 where
  pub each_distance : length new.distances ≡ length old.distances
  pub each_parent : length new.parents ≡ length old.parents
  pub each_place : length new.distances ≡ length new.waiting.places
  pub placed : IsPlaced new.waiting
  pub none_waits : new.waiting.count ≡ 0

-- the node in whose list the edge stands: the one that it leads out of; or if it has no room or leads back to that node, the
-- one past all
unfoldable pub list_of_edge : State → Edge → ℕ
list_of_edge state e =
    if tail state.instance.arcs e == head state.instance.arcs e
    then state.instance.steps + 1
    else (if residual state.instance state.flows e == 0 then state.instance.steps + 1 else tail state.instance.arcs e)

-- the node in whose list the outer edge of that number stands
unfoldable pub list_of : State → ℕ → ℕ
list_of state number = list_of_edge state (edge_of (length state.instance.arcs) number)

-- the potential of the node when the edges were listed
abbrev pub listed_potential : State → Ranges → ℕ → ℕ
listed_potential state lists node = slice_index state.potentials node + slice_index lists.falls node

-- each node has a range of places with edges, their lengths rising, and each outer edge with room to another node stands in
-- that of its tail, or was woken
pub record IsListed (state : State) (lists : Ranges) : Type 0 where
  pub few : state.instance.steps + 1 < length lists.first
  pub order : (node : ℕ) → node ≤ state.instance.steps → slice_index lists.first node ≤ slice_index lists.first (node + 1)
  pub within : (node : ℕ) → node ≤ state.instance.steps → slice_index lists.first (node + 1) ≤ length lists.edges
  pub sound : (place : ℕ) → place < length lists.edges → IsSound state.instance (listed_at lists.edges place)
  pub rising : AreSorted state.instance.steps lists.first lists.edges
  pub each_fall : state.instance.steps + 1 ≤ length lists.falls
  pub small : (node : ℕ) → node ≤ state.instance.steps → listed_potential state lists node ≤ 2 ^ 124
  pub chained : AreChained state.instance lists.last lists.woken
  pub listed : (k : ℕ) → k < 2 * length state.instance.arcs → tail_of state.instance.arcs k ≢ head state.instance.arcs (edge_of (length state.instance.arcs) k)
      → 0 < residual state.instance state.flows (edge_of (length state.instance.arcs) k)
      → IsPlacedAt state.instance lists.first lists.edges (listed_potential state lists) (tail_of state.instance.arcs k) k ⊎ WasWoken lists.woken k

-- the potential of each node when the edges were listed is still known
pub record KeepsListed (old : State) (lists : Ranges) (new : State) (more : Ranges) : Type 0 where
  pub each : length more.falls ≡ length lists.falls
  pub same : (node : ℕ) → node ≤ old.instance.steps → listed_potential new more node ≡ listed_potential old lists node

-- an outer edge without room was woken
abbrev pub IsWokenIfShut : State → List WokenEdge → Edge → Type 0
IsWokenIfShut state woken e =
    residual state.instance state.flows e ≤ 0 → number_of (length state.instance.arcs) e < 2 * length state.instance.arcs
    → WasWoken woken (number_of (length state.instance.arcs) e)

-- the edges the other way than those of the path are woken, if they have no room
abbrev pub AreWaysBackWoken : State → List WokenEdge → List Edge → Type 0
AreWaysBackWoken state woken path = (j : ℕ) → j < length path → IsWokenIfShut state woken (opposite (edge_at path j))

-- by its listed length, the edge makes its head no nearer within the limit, if it leads out of a node of that distance, whose
-- potential fell by that
abbrev pub BringsNoNearer : Ranges → Found → ListedEdge → ℕ → ℕ → Type 0
BringsNoNearer lists found edge near fell =
    min found.limit (slice_index found.distances edge.head) + fell ≤ near + edge.listed_length + slice_index lists.falls edge.head

-- by its listed length, the edge is shorter than 0, if it leads out of a node whose potential fell by that
abbrev pub IsShort : Ranges → ListedEdge → ℕ → Type 0
IsShort lists edge fell = (edge.listed_length < 2 ^ 64 - 1) × (edge.listed_length + slice_index lists.falls edge.head < fell)

-- the listed edge is no way that brings its head nearer within the limit, if it leads out of a node of that distance, whose
-- potential fell by that: it is too long for that, or has no room
abbrev pub IsNoWay : Ranges → Found → ListedEdge → ℕ → ℕ → Type 0
IsNoWay lists found edge near fell = BringsNoNearer lists found edge near fell ⊎ IsShort lists edge fell

-- the listed edge leads to a node with a distance, whose potential fell by no more than potentials have
abbrev pub HasHead : Ranges → Found → ListedEdge → Type 0
HasHead lists found edge =
    (edge.head < length found.distances) × (slice_index found.distances edge.head ≤ far) × (edge.head < length lists.falls) × (slice_index lists.falls edge.head ≤ 2 ^ 124)

-- once the node rests, the edges in its range are settled
abbrev pub AreListedDone : State → Ranges → Found → ℕ → Type 0
AreListedDone state lists found node =
    Rests found node → (k : ℕ) → tail_of state.instance.arcs k ≡ node → IsPlacedAt state.instance lists.first lists.edges (listed_potential state lists) node k
    → IsSettledBy state found (edge_of (length state.instance.arcs) k)

-- once the node rests, the woken edges out of it are settled
abbrev pub AreWokenDone : State → Ranges → Found → ℕ → Type 0
AreWokenDone state lists found node =
    Rests found node → (k : ℕ) → tail_of state.instance.arcs k ≡ node → WasWoken lists.woken k → IsSettledBy state found (edge_of (length state.instance.arcs) k)

-- once the node rests, all edges out of it are settled
abbrev pub AreAllDone : State → Found → ℕ → Type 0
AreAllDone state found node = Rests found node → (e : Edge) → IsEdge state.instance e → tail state.instance.arcs e ≡ node → IsSettledBy state found e

-- the edge is tight under the lowered potentials
abbrev pub IsTightLowered : State → Found → Edge → Type 0
IsTightLowered state found e = IsTight state.instance state.flows (lowered state.potentials found.distances found.limit) e

-- edges that are tight under the lowered potentials lead back to where the search began from each node within the limit
abbrev pub LeadsBackLowered : State → ℕ → Found → Type 0
LeadsBackLowered state from found = LeadsBack state.instance state.flows (lowered state.potentials found.distances found.limit) from found.limit found.distances found.parents

-- the nearest with an excess after a node was found at the distance
pub record IsAimed (state : State) (old_limit old_goal : ℕ) (distances : List ℕ) (node limit goal : ℕ) : Type 0 where
  pub limit_falls : limit ≤ old_limit
  pub past : 0 < slice_index state.excess node → limit ≤ slice_index distances node
  pub goal_is : ((limit ≡ old_limit) × (goal ≡ old_goal)) ⊎ ((limit ≡ slice_index distances node) × (goal ≡ node) × (0 < slice_index state.excess node))
