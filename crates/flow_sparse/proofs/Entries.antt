-- Listed edges: what a bound of their lengths shows, and lists in which one is set.
use Rattle.std.proofs.Common.{◌≡◌, ◌≢◌, ◌∙◌, ℕ, ◌*◌, ◌<◌, ◌≤◌, ap, sym, subst, ⊎_elim, List, length, arith, set, get_or-set_same, get_or-set_other, slice_index}
use Rattle.flow_model.specs.declared.edges.Edge.{Edge}
use Rattle.flow_model.specs.Instances.{Instance}
use Rattle.flow_model.specs.Networks.{IsEdge, tail, head}
use Rattle.flow_parts.specs.OuterEdges.{edge_of, tail_of}
use Rattle.flow_parts.specs.Searches.{IsSettled}
use Rattle.flow_sparse.specs.declared.edges.ListedEdge.{ListedEdge}
use Rattle.flow_parts.proofs.EdgeLists.{is_edge_of}
use Rattle.flow_sparse.specs.Ranges.{Ranges, IsEntry, listed_at, no_listed}
use Rattle.flow_sparse.specs.Searches.{BringsNoNearer, Found, HasHead, IsListed, IsNoWay, IsSearch, IsSettledBy, IsShort, listed_potential}
use Rattle.flow_sparse.specs.States.{State, IsReady}

-- what stands at j where the edge at i was set
pub entry_set : (xs : List ListedEdge) (i j : ℕ) (x : ListedEdge) → i < length xs → (j ≡ i → listed_at (set xs i x) j ≡ x) × (j ≢ i → listed_at (set xs i x) j ≡ listed_at xs j)
entry_set xs i j x within = (λ e. ap (listed_at (set xs i x)) e ∙ get_or-set_same xs i x no_listed within, λ n. get_or-set_other xs i j x no_listed n)

-- an entry under potentials that are the same at the ends of its edge
pub entry_kept : (i : Instance) (a b : ℕ → ℕ) (entry : ListedEdge) (k : ℕ) → b (tail_of i.arcs k) ≡ a (tail_of i.arcs k) → b (head i.arcs (edge_of (length i.arcs) k)) ≡ a (head i.arcs (edge_of (length i.arcs) k))
    → IsEntry i a entry k → IsEntry i b entry k
entry_kept i a b entry k at_tail at_head is =
    record { number_is = is.number_is; head_is = is.head_is; bound = omega (arith, is.bound, at_tail, at_head); exact = λ h. omega (arith, is.exact h, at_tail, at_head) }

-- an edge as long as that leads no nearer
pub settled_near : (s : State) (lists : Ranges) (found : Found) (k : ℕ) (entry : ListedEdge) → IsEntry s.instance (listed_potential s lists) entry k
    → BringsNoNearer lists found entry (slice_index found.distances (tail_of s.instance.arcs k)) (slice_index lists.falls (tail_of s.instance.arcs k))
    → IsSettledBy s found (edge_of (length s.instance.arcs) k)
settled_near s lists found k entry is long room =
    omega (arith, is.bound, long, ap (slice_index s.potentials) is.head_is, ap (slice_index lists.falls) is.head_is, ap (slice_index found.distances) is.head_is)

-- an edge shorter than 0 has no room
pub settled_short : (s : State) (lists : Ranges) (found : Found) (k : ℕ) (entry : ListedEdge) → IsReady s → IsEntry s.instance (listed_potential s lists) entry k → k < 2 * length s.instance.arcs
    → IsShort lists entry (slice_index lists.falls (tail_of s.instance.arcs k))
    → IsSettledBy s found (edge_of (length s.instance.arcs) k)
settled_short s lists found k entry ready is high short room =
    absurd (omega (arith, is.exact short.0, short.1, ready.valid (edge_of (length s.instance.arcs) k) (is_edge_of s.instance k high) room, ap (slice_index s.potentials) is.head_is, ap (slice_index lists.falls) is.head_is))

-- an edge that is no way is settled
pub settled_no_way : (s : State) (lists : Ranges) (found : Found) (k : ℕ) (entry : ListedEdge) → IsReady s → IsEntry s.instance (listed_potential s lists) entry k → k < 2 * length s.instance.arcs
    → IsNoWay lists found entry (slice_index found.distances (tail_of s.instance.arcs k)) (slice_index lists.falls (tail_of s.instance.arcs k))
    → IsSettledBy s found (edge_of (length s.instance.arcs) k)
settled_no_way s lists found k entry ready is high =
    ⊎_elim
    (λ (long : BringsNoNearer lists found entry (slice_index found.distances (tail_of s.instance.arcs k)) (slice_index lists.falls (tail_of s.instance.arcs k))). settled_near s lists found k entry is long)
    (λ (short : IsShort lists entry (slice_index lists.falls (tail_of s.instance.arcs k))). settled_short s lists found k entry ready is high short)

-- so are those of a node that were passed
pub settled_passed : (s : State) (lists : Ranges) (found : Found) (node near fell first past : ℕ) → IsReady s → IsListed s lists
    → slice_index found.distances node ≡ near → slice_index lists.falls node ≡ fell
    → ((p : ℕ) → first ≤ p → p < past → IsNoWay lists found (listed_at lists.edges p) near fell)
    → (p k : ℕ) → first ≤ p → p < past → p < length lists.edges → tail_of s.instance.arcs k ≡ node → IsEntry s.instance (listed_potential s lists) (listed_at lists.edges p) k
    → IsSettledBy s found (edge_of (length s.instance.arcs) k)
settled_passed s lists found node near fell first past ready listed distance falls passed p k low high inside tail entry =
    settled_no_way s lists found k (listed_at lists.edges p) ready entry (omega (arith, entry.number_is, (listed.sound p inside).is_edge))
    (subst (λ (f : ℕ). IsNoWay lists found (listed_at lists.edges p) (slice_index found.distances (tail_of s.instance.arcs k)) f) (sym (ap (slice_index lists.falls) tail ∙ falls))
    (subst (λ (d : ℕ). IsNoWay lists found (listed_at lists.edges p) d fell) (sym (ap (slice_index found.distances) tail ∙ distance)) (passed p low high)))

-- in a search each listed edge has a head
pub has_head : (s : State) (from : ℕ) (lists : Ranges) (found : Found) (p : ℕ) → IsListed s lists → IsSearch s from found → p < length lists.edges → HasHead lists found (listed_at lists.edges p)
has_head s from lists found p listed search inside =
    let within = (listed.sound p inside).head_within in (
      omega (arith, within, search.tree.each_distance),
      search.tree.small (listed_at lists.edges p).head within,
      omega (arith, within, listed.each_fall),
      omega (arith, listed.small (listed_at lists.edges p).head within),
    )

-- an edge to a node that is no farther leads no nearer
pub settled_woken : (s : State) (distances : List ℕ) (limit node : ℕ) (e : Edge) → IsReady s → IsEdge s.instance e → tail s.instance.arcs e ≡ node → slice_index distances (head s.instance.arcs e) ≤ slice_index distances node → IsSettled s.instance s.flows s.potentials distances limit e
settled_woken s distances limit node e ready is at near room =
    omega (arith, ready.valid e is room, near, ap (slice_index distances) at)
