-- Outer edges that lead from a node to itself stand in no node's list, and are settled at any distances.
use Rattle.std.proofs.Common.{◌≡◌, ◌≢◌, ◌∙◌, ℕ, ◌+◌, ◌*◌, ◌<◌, ◌≤◌, ◌==◌, ap, refl, cond, List, length, arith, ⊎_elim, slice_index}
use Rattle.std.proofs.lemmas.Bool.{cases_eq, eq-eqb, ne_eqb}
use Rattle.flow_model.specs.declared.edges.Edge.{Edge}
use Rattle.flow_model.specs.Instances.{Instance}
use Rattle.flow_model.specs.Networks.{IsEdge, tail, head, residual}
use Rattle.flow_parts.specs.OuterEdges.{edge_of, tail_of}
use Rattle.flow_parts.proofs.EdgeLists.{is_edge_of}
use Rattle.flow_parts.specs.Searches.{IsSettled}
use Rattle.flow_sparse.specs.States.{State, IsNetwork, IsReady}
use Rattle.flow_sparse.specs.Searches.{list_of, list_of_edge}
use Rattle.flow_sparse.proofs.Levels.{ends_within}

-- an edge that leads back to its node stands in the list past all
pub list_of-loop : (s : State) (e : Edge) → tail s.instance.arcs e ≡ head s.instance.arcs e → list_of_edge s e ≡ s.instance.steps + 1
unfolding list_of_edge
list_of-loop s e same =
    ap (λ b. cond b (s.instance.steps + 1) (cond (residual s.instance s.flows e == 0) (s.instance.steps + 1) (tail s.instance.arcs e))) (eq-eqb (tail s.instance.arcs e) (head s.instance.arcs e) same)

-- an edge without room stands in the list past all
pub list_of-shut : (s : State) (e : Edge) → residual s.instance s.flows e ≡ 0 → list_of_edge s e ≡ s.instance.steps + 1
unfolding list_of_edge
list_of-shut s e none =
    ⊎_elim
    (λ (same : tail s.instance.arcs e ≡ head s.instance.arcs e). list_of-loop s e same)
    (λ (apart : tail s.instance.arcs e ≢ head s.instance.arcs e).
    ap (λ b. cond b (s.instance.steps + 1) (cond (residual s.instance s.flows e == 0) (s.instance.steps + 1) (tail s.instance.arcs e))) (ne_eqb (tail s.instance.arcs e) (head s.instance.arcs e) apart)
    ∙ ap (λ b. cond b (s.instance.steps + 1) (tail s.instance.arcs e)) (eq-eqb (residual s.instance s.flows e) 0 none))
    (cases_eq (tail s.instance.arcs e) (head s.instance.arcs e))

-- any other stands in that of its tail
pub list_of-kept : (s : State) (e : Edge) → tail s.instance.arcs e ≢ head s.instance.arcs e → residual s.instance s.flows e ≢ 0 → list_of_edge s e ≡ tail s.instance.arcs e
unfolding list_of_edge
list_of-kept s e apart some =
    ap (λ b. cond b (s.instance.steps + 1) (cond (residual s.instance s.flows e == 0) (s.instance.steps + 1) (tail s.instance.arcs e))) (ne_eqb (tail s.instance.arcs e) (head s.instance.arcs e) apart)
    ∙ ap (λ b. cond b (s.instance.steps + 1) (tail s.instance.arcs e)) (ne_eqb (residual s.instance s.flows e) 0 some)

-- of a number it is the list of its edge
pub list_of-number : (s : State) (k : ℕ) → list_of s k ≡ list_of_edge s (edge_of (length s.instance.arcs) k)
unfolding list_of
list_of-number s k = refl

-- the edge of that number leads out of a node of the instance, and to one
pub tail_within : (instance : Instance) (k : ℕ) → IsNetwork instance → k < 2 * length instance.arcs → tail_of instance.arcs k ≤ instance.steps
tail_within instance k fits h = (ends_within instance fits (edge_of (length instance.arcs) k) (is_edge_of instance k h)).0

pub head_within : (instance : Instance) (k : ℕ) → IsNetwork instance → k < 2 * length instance.arcs → head instance.arcs (edge_of (length instance.arcs) k) ≤ instance.steps
head_within instance k fits h = (ends_within instance fits (edge_of (length instance.arcs) k) (is_edge_of instance k h)).1

-- the edge stands in the list of a node, so it has room and leads from that to another
pub record IsKept (s : State) (k : ℕ) : Type 0 where
  pub room : 0 < residual s.instance s.flows (edge_of (length s.instance.arcs) k)
  pub list_is : list_of s k ≡ tail_of s.instance.arcs k

pub kept_low : (s : State) (k : ℕ) → list_of s k ≤ s.instance.steps → IsKept s k
kept_low s k low =
    let e : Edge = edge_of (length s.instance.arcs) k in
    ⊎_elim
    (λ (same : tail s.instance.arcs e ≡ head s.instance.arcs e). absurd (omega (arith, low, list_of-number s k, list_of-loop s e same)))
    (λ (apart : tail s.instance.arcs e ≢ head s.instance.arcs e).
    ⊎_elim
    (λ (none : residual s.instance s.flows e ≡ 0). absurd (omega (arith, low, list_of-number s k, list_of-shut s e none)))
    (λ (some : residual s.instance s.flows e ≢ 0). record { room = omega (arith, some); list_is = list_of-number s k ∙ list_of-kept s e apart some })
    (cases_eq (residual s.instance s.flows e) 0))
    (cases_eq (tail s.instance.arcs e) (head s.instance.arcs e))

-- an edge with room to another node stands in the list of its tail
pub list_kept : (s : State) (k : ℕ) → tail_of s.instance.arcs k ≢ head s.instance.arcs (edge_of (length s.instance.arcs) k) → 0 < residual s.instance s.flows (edge_of (length s.instance.arcs) k)
    → list_of s k ≡ tail_of s.instance.arcs k
list_kept s k apart room = list_of-number s k ∙ list_of-kept s (edge_of (length s.instance.arcs) k) apart (λ none. omega (arith, room, none))

-- an edge that leads back to its node is settled
pub loop_settled : (state : State) (distances : List ℕ) (limit : ℕ) (e : Edge) → IsReady state → IsEdge state.instance e → tail state.instance.arcs e ≡ head state.instance.arcs e → IsSettled state.instance state.flows state.potentials distances limit e
loop_settled state distances limit e ready is same room =
    omega (arith, ready.valid e is room, ap (slice_index distances) same)
