-- Searches: how one begins, and what it keeps where a node is found nearer.
use Rattle.std.proofs.Common.{◌≡◌, ◌≢◌, ℕ, ◌+◌, ◌<◌, ◌≤◌, ◌∙◌, sym, refl, ap, subst, List, length, arith, ⊎_elim, get_or, set, sum, length-set, slice_index}
use Rattle.std.proofs.lemmas.Bool.{cases_eq, cases_lt}
use Rattle.std.proofs.lemmas.List.Sums.{sum_by-set}
use Rattle.flow_model.specs.declared.edges.Edge.{Edge}
use Rattle.flow_model.specs.Networks.{tail, head, gain, residual, IsEdge}
use Rattle.flow_model.specs.Pushes.{edge_at}
use Rattle.flow_model.proofs.Lists.{set_at}
use Rattle.flow_parts.specs.Queues.{Waits, IsQueue, Joins, Leaves}
use Rattle.flow_parts.proofs.Trees.{first_tree, tree_more, parent_is_tight}
use Rattle.flow_parts.specs.Searches.{lowered, IsTightParent, IsTree, at_tail}
use Rattle.flow_sparse.specs.States.{State, IsReady, IsHigh, IsReached}
use Rattle.flow_sparse.specs.Searches.{Found, IsAimed, Rests, IsSearch, IsGoal, AreSettled, Nears, IsIdle, far, IsSettledBy, LeadsBackLowered}
use Rattle.flow_sparse.proofs.Levels.{ends_within}
use Rattle.flow_sparse.proofs.Lowered.{enough, excess_is_reached}

-- the tree of a search from the node
abbrev pub IsTreeFrom : State → ℕ → List ℕ → List Edge → Type 0
IsTreeFrom state from distances parents = IsTree state.instance state.flows state.potentials from far distances parents

-- no distance changed
pub Nears-refl : (state : State) (from : ℕ) (found : Found) → IsSearch state from found → Nears state from found found
Nears-refl state from found search = record { search = search; rests = λ v h. h; same = λ v h. refl; stays = λ e is rests settled. settled; falls = omega arith; each_distance = refl; each_parent = refl }

-- one after the other
pub Nears-trans : (state : State) (from : ℕ) (a b c : Found) → Nears state from a b → Nears state from b c → Nears state from a c
Nears-trans state from a b c before after =
    record {
      search = after.search;
      rests = λ v h. before.rests v (after.rests v h);
      same = λ v h. after.same v h ∙ before.same v (after.rests v h);
      stays = λ e is rests settled. after.stays e is rests (before.stays e is (after.rests (tail state.instance.arcs e) rests) settled);
      falls = omega (arith, before.falls, after.falls);
      each_distance = after.each_distance ∙ before.each_distance;
      each_parent = after.each_parent ∙ before.each_parent;
    }

-- the head of an edge with room is nearer along it, and waits
pub nears_more : (state : State) (from : ℕ) (old new : Found) (e : Edge) (near : ℕ) → IsReady state → IsSearch state from old → IsEdge state.instance e → 0 < residual state.instance state.flows e
    → near + (gain state.instance.arcs e + get_or state.potentials (head state.instance.arcs e) 0) ≡ at_tail state.instance.arcs state.potentials old.distances e
    → near < get_or old.distances (head state.instance.arcs e) 0
    → near < old.limit
    → new.distances ≡ set old.distances (head state.instance.arcs e) near
    → new.parents ≡ set old.parents (head state.instance.arcs e) e
    → IsAimed state old.limit old.goal new.distances (head state.instance.arcs e) new.limit new.goal
    → Joins old.waiting new.waiting (head state.instance.arcs e) → IsQueue new.waiting new.distances → Nears state from old new
nears_more state from old new e near ready search is_edge room value nearer below distances parents aimed joins queue =
    record {
      search = record {
        tree = subst (λ (ps : List Edge). IsTreeFrom state from new.distances ps) (sym parents)
            (subst (λ (ds : List ℕ). IsTreeFrom state from ds (set old.parents (head state.instance.arcs e) e)) (sym distances) (tree_more state.instance state.flows state.potentials from far old.distances old.parents e near search.tree is_edge room (ready.valid e is_edge) ends.1 value nearer));
        queue = queue;
        waits = λ v waits.
            ⊎_elim
            (λ (same : v ≡ head state.instance.arcs e). omega (arith, same, ends.1))
            (λ (other : v ≡ head state.instance.arcs e → ⊥). search.waits v (joins.only v waits other))
            (cases_eq v (head state.instance.arcs e));
        small = omega (arith, aimed.limit_falls, search.small);
        excess_is_past = λ v h excess.
            ⊎_elim
            (λ (same : v ≡ head state.instance.arcs e). omega (arith, aimed.past (omega (arith, excess, ap (slice_index state.excess) same)), ap (slice_index new.distances) same))
            (λ (other : v ≡ head state.instance.arcs e → ⊥). omega (arith, aimed.limit_falls, search.excess_is_past v h excess, kept v other))
            (cases_eq v (head state.instance.arcs e));
        goal = λ low.
            ⊎_elim
            (λ (was : (new.limit ≡ old.limit) × (new.goal ≡ old.goal)).
            let goal : IsGoal state old = search.goal (omega (arith, low, was.0)) in
            let other : new.goal ≢ head state.instance.arcs e = λ same.
            omega (arith, same, was.1, was.0, below, nearer, goal.at_limit, aimed.past (omega (arith, goal.excess, ap (slice_index state.excess) (sym was.1 ∙ same))), own) in
            record {
              within = omega (arith, goal.within, was.1);
              excess = omega (arith, goal.excess, ap (slice_index state.excess) was.1);
              at_limit = omega (arith, kept new.goal other, ap (slice_index old.distances) was.1, goal.at_limit, was.0);
            })
            (λ (is : (new.limit ≡ slice_index new.distances (head state.instance.arcs e)) × (new.goal ≡ head state.instance.arcs e) × (0 < slice_index state.excess (head state.instance.arcs e))).
            record {
              within = omega (arith, is.1, ends.1);
              excess = omega (arith, is.2, ap (slice_index state.excess) is.1);
              at_limit = omega (arith, is.0, ap (slice_index new.distances) is.1);
            })
            aimed.goal_is;
      };
      rests = λ v h. ⊎_elim (λ (waits : 0 < get_or old.waiting.places v 0). absurd (omega (arith, joins.stays v waits, h))) (λ (none : get_or old.waiting.places v 0 ≤ 0). omega arith) (cases_lt 0 (get_or old.waiting.places v 0));
      same = λ v h. kept v (λ same. omega (arith, joins.joined, h, ap (λ k. get_or new.waiting.places k 0) same));
      stays = stays;
      falls = omega (arith, sum_by-set (λ (k : ℕ). k) old.distances (head state.instance.arcs e) near 0 inside, ap sum distances, joins.few, nearer);
      each_distance = ap length distances ∙ length-set old.distances (head state.instance.arcs e) near;
      each_parent = ap length parents ∙ length-set old.parents (head state.instance.arcs e) e;
    }
  where
    ends : (tail state.instance.arcs e ≤ state.instance.steps) × (head state.instance.arcs e ≤ state.instance.steps)
    ends = ends_within state.instance ready.fits.in_range e is_edge

    inside : head state.instance.arcs e < length old.distances
    inside = omega (arith, search.tree.each_distance, ends.1)

    own : get_or new.distances (head state.instance.arcs e) 0 ≡ near
    own = ap (λ ds. get_or ds (head state.instance.arcs e) 0) distances ∙ (set_at old.distances (head state.instance.arcs e) (head state.instance.arcs e) near inside).0 refl

    kept : (v : ℕ) → v ≢ head state.instance.arcs e → get_or new.distances v 0 ≡ get_or old.distances v 0
    kept v other = ap (λ ds. get_or ds v 0) distances ∙ (set_at old.distances (head state.instance.arcs e) v near inside).1 other

    no_more : (v : ℕ) → get_or new.distances v 0 ≤ get_or old.distances v 0
    no_more v =
        ⊎_elim (λ (is : v ≡ head state.instance.arcs e). omega (arith, own, nearer, ap (λ k. get_or old.distances k 0) is, ap (λ k. get_or new.distances k 0) is))
        (λ (n : v ≡ head state.instance.arcs e → ⊥). omega (arith, kept v n)) (cases_eq v (head state.instance.arcs e))

    stays : (f : Edge) → IsEdge state.instance f → Rests new (tail state.instance.arcs f) → IsSettledBy state old f → IsSettledBy state new f
    stays f is resting settled = λ has.
        let t : ℕ = tail state.instance.arcs f in
        let other : t ≢ head state.instance.arcs e = λ same. omega (arith, joins.joined, resting, ap (λ k. get_or new.waiting.places k 0) same) in
        omega (arith, settled has, kept t other, aimed.limit_falls, no_more (head state.instance.arcs f))

-- the queue alone changed
pub search_taken : (state : State) (from : ℕ) (old new : Found) → IsSearch state from old → new ≡ record old { waiting = new.waiting } → IsQueue new.waiting new.distances → ((v : ℕ) → Waits new.waiting v → Waits old.waiting v) → IsSearch state from new
search_taken state from old new search is queue only =
    record {
      tree = subst (λ (f : Found). IsTreeFrom state from f.distances f.parents) (sym is) search.tree;
      queue = queue;
      waits = λ v h. search.waits v (only v h);
      small = subst (λ (f : Found). f.limit ≤ far) (sym is) search.small;
      excess_is_past = subst (λ (f : Found). (node : ℕ) → node ≤ state.instance.steps → 0 < slice_index state.excess node → f.limit ≤ slice_index f.distances node) (sym is) search.excess_is_past;
      goal = λ low.
          let goal : IsGoal state old = search.goal (omega (arith, low, ap (λ (f : Found). f.limit) is)) in
          record {
            within = omega (arith, goal.within, ap (λ (f : Found). f.goal) is);
            excess = omega (arith, goal.excess, ap (λ (f : Found). slice_index state.excess f.goal) is);
            at_limit = ap (λ (f : Found). slice_index f.distances f.goal) is ∙ goal.at_limit ∙ sym (ap (λ (f : Found). f.limit) is);
          };
    }

-- after a node was taken out and the edges out of it were relaxed
pub next_settled : (state : State) (from : ℕ) (old taken new : Found) (node : ℕ) → AreSettled state old → taken ≡ record old { waiting = taken.waiting } → Leaves old.waiting taken.waiting old.distances node
    → Nears state from taken new → (Rests new node → (e : Edge) → IsEdge state.instance e → tail state.instance.arcs e ≡ node → IsSettledBy state new e) → AreSettled state new
next_settled state from old taken new node settled is leaves nears own = λ e is_edge rests.
    let t : ℕ = tail state.instance.arcs e in
    ⊎_elim
    (λ (at : t ≡ node). own (subst (λ (k : ℕ). Rests new k) at rests) e is_edge at)
    (λ (other : t ≡ node → ⊥).
    nears.stays e is_edge rests (subst (λ (f : Found). IsSettledBy state f e) (sym is) (settled e is_edge (before t other (nears.rests t rests)))))
    (cases_eq t node)
  where
    before : (v : ℕ) → v ≢ node → Rests taken v → Rests old v
    before v other rests =
        ⊎_elim (λ (h : 0 < get_or old.waiting.places v 0). absurd (omega (arith, leaves.quits.stays v h other, rests))) (λ (h : get_or old.waiting.places v 0 ≤ 0). omega arith)
        (cases_lt 0 (get_or old.waiting.places v 0))

-- no node waits that is nearer than the limit
pub all_settled : (state : State) (old : Found) → IsReady state → AreSettled state old
    → ((v : ℕ) → v ≤ state.instance.steps → 0 < get_or old.waiting.places v 0 → old.limit ≤ get_or old.distances v 0)
    → (e : Edge) → IsEdge state.instance e → IsSettledBy state old e
all_settled state old ready settled far_off e is has =
    let t : ℕ = tail state.instance.arcs e in
    ⊎_elim
    (λ (waits : 0 < get_or old.waiting.places t 0). omega (arith, far_off t (ends_within state.instance ready.fits.in_range e is).0 waits, ready.valid e is has))
    (λ (none : get_or old.waiting.places t 0 ≤ 0). settled e is (omega arith) has)
    (cases_lt 0 (get_or old.waiting.places t 0))

-- what the search says of distances
pub reached : (state : State) (from : ℕ) (found : Found) → IsSearch state from found → ((e : Edge) → IsEdge state.instance e → IsSettledBy state found e) → IsReached state from found.distances found.limit
reached state from found search settled = record { from_within = search.tree.from_within; start = search.tree.start; settled = settled; excess_is_past = search.excess_is_past }

-- from a node with a deficit, a node with an excess was found
pub goal_found : (state : State) (from : ℕ) (found : Found) → IsReady state → IsHigh state → IsSearch state from found → ((e : Edge) → IsEdge state.instance e → IsSettledBy state found e)
    → 0 < slice_index state.deficit from → IsGoal state found
goal_found state from found ready high search settled deficit = search.goal (excess_is_reached state from found.limit found.distances ready high (reached state from found search settled) deficit)

-- under the lowered potentials, tight edges lead back from each node within the limit
pub leads_back : (state : State) (from : ℕ) (found : Found) → IsReady state → IsHigh state → IsSearch state from found → ((e : Edge) → IsEdge state.instance e → IsSettledBy state found e)
    → 0 < slice_index state.deficit from → LeadsBackLowered state from found
leads_back state from found ready high search settled deficit =
    record { from_within = search.tree.from_within; each_parent = search.tree.each_parent; tight_parents = (search.tree.found_by.0, tight_parent) }
  where
    tight_parent : (node : ℕ) → node ≢ from → node ≤ state.instance.steps → slice_index found.distances node ≤ found.limit
        → IsTightParent state.instance state.flows (lowered state.potentials found.distances found.limit) found.distances found.limit search.tree.found_by.0 (edge_at found.parents node) node
    tight_parent node some within near =
        let e : Edge = edge_at found.parents node in
        let is : IsReached state from found.distances found.limit = reached state from found search settled in
        let parent = search.tree.found_by.1 node some within (omega (arith, near, excess_is_reached state from found.limit found.distances ready high is deficit)) in
        let ends = ends_within state.instance ready.fits.in_range e parent.is_edge in
        parent_is_tight state.instance state.flows state.potentials found.distances found.limit (lowered state.potentials found.distances found.limit) search.tree.found_by.0 e node
        parent (ready.valid e parent.is_edge) (settled e parent.is_edge) near refl refl
        (omega (arith, enough state from found.limit found.distances ready high is deficit (head state.instance.arcs e) ends.1))
        (omega (arith, enough state from found.limit found.distances ready high is deficit (tail state.instance.arcs e) ends.0))

-- the node where the search begins was found and waits, and no other
pub started : (state : State) (from : ℕ) (old new : Found) → IsIdle state.instance.steps old → from ≤ state.instance.steps
    → ((node : ℕ) → node ≤ state.instance.steps → get_or old.distances node 0 ≡ far)
    → new.distances ≡ set old.distances from 0 → new.parents ≡ old.parents
    → IsAimed state far old.goal new.distances from new.limit new.goal
    → Joins old.waiting new.waiting from → IsQueue new.waiting new.distances
    → IsSearch state from new × ((node : ℕ) → node ≢ from → node ≤ state.instance.steps → get_or new.distances node 0 ≡ far)
started state from old new idle within far_off distances parents aimed joins queue = (
  record {
    tree = first_tree state.instance state.flows state.potentials from far new.distances new.parents (omega (arith, ap length distances, length-set old.distances from 0, idle.each_distance)) (omega (arith, ap length parents, idle.each_parent)) within (at from ∙ (read from).0 refl) others;
    queue = queue;
    waits = λ v h.
        ⊎_elim
        (λ (e : v ≡ from). omega (arith, e, within))
        (λ (n : v ≢ from). absurd (omega (arith, joins.only v h n, idle.placed.low v, idle.none_waits)))
        (cases_eq v from);
    small = aimed.limit_falls;
    excess_is_past = λ v h excess.
        ⊎_elim
        (λ (e : v ≡ from). omega (arith, aimed.past (omega (arith, excess, ap (slice_index state.excess) e)), ap (slice_index new.distances) e))
        (λ (n : v ≢ from). omega (arith, others v n h, aimed.limit_falls))
        (cases_eq v from);
    goal = λ low.
        ⊎_elim
        (λ (was : (new.limit ≡ far) × (new.goal ≡ old.goal)). absurd (omega (arith, low, was.0)))
        (λ (is : (new.limit ≡ slice_index new.distances from) × (new.goal ≡ from) × (0 < slice_index state.excess from)).
        record {
          within = omega (arith, is.1, within);
          excess = omega (arith, is.2, ap (slice_index state.excess) is.1);
          at_limit = omega (arith, is.0, ap (slice_index new.distances) is.1);
        })
        aimed.goal_is;
  },
  others,
)
  where
    read : (v : ℕ) → (v ≡ from → get_or (set old.distances from 0) v 0 ≡ 0) × (v ≢ from → get_or (set old.distances from 0) v 0 ≡ get_or old.distances v 0)
    read v = set_at old.distances from v 0 (omega (arith, within, idle.each_distance))

    at : (v : ℕ) → get_or new.distances v 0 ≡ get_or (set old.distances from 0) v 0
    at v = ap (λ ds. get_or ds v 0) distances

    others : (node : ℕ) → node ≢ from → node ≤ state.instance.steps → get_or new.distances node 0 ≡ far
    others node other h = at node ∙ (read node).1 other ∙ far_off node h

-- edges out of the nodes that were not found are settled
pub first_settled : (state : State) (from : ℕ) (found : Found) → IsReady state → IsSearch state from found → ((node : ℕ) → node ≢ from → node ≤ state.instance.steps → get_or found.distances node 0 ≡ far) → Waits found.waiting from
    → AreSettled state found
first_settled state from found ready search far_off waits e is_edge rests has =
    let t : ℕ = tail state.instance.arcs e in
    let other : t ≢ from = λ same. omega (arith, waits, rests, ap (λ k. get_or found.waiting.places k 0) same) in
    omega (arith, far_off t other (ends_within state.instance ready.fits.in_range e is_edge).0, search.small, ready.valid e is_edge has)

-- no node that waits is nearer than the one that was taken
pub far_after : (state : State) (old taken : Found) (node : ℕ) → IsReady state → AreSettled state old → taken ≡ record old { waiting = taken.waiting } → Leaves old.waiting taken.waiting old.distances node → node ≤ state.instance.steps → old.limit ≤ get_or old.distances node 0
    → (e : Edge) → IsEdge state.instance e → IsSettledBy state taken e
far_after state old taken node ready settled is leaves within past e is_edge =
    subst (λ (f : Found). IsSettledBy state f e) (sym is)
    (all_settled state old ready settled (λ v h waits. omega (arith, leaves.first v waits, past, ready.fits.in_range.few_steps)) e is_edge)

-- where no node waits all edges are settled
pub none_after : (state : State) (old taken : Found) → IsReady state → AreSettled state old → taken ≡ record old { waiting = taken.waiting } → IsQueue old.waiting old.distances → old.waiting.count ≡ 0
    → (e : Edge) → IsEdge state.instance e → IsSettledBy state taken e
none_after state old taken ready settled is queue none e is_edge =
    subst (λ (f : Found). IsSettledBy state f e) (sym is)
    (all_settled state old ready settled (λ v h waits. absurd (omega (arith, queue.placed.low v, none, waits))) e is_edge)

-- the queue was emptied
pub emptied : (state : State) (from : ℕ) (old new : Found) → IsSearch state from old → ((e : Edge) → IsEdge state.instance e → IsSettledBy state old e) → new ≡ record old { waiting = new.waiting } → IsQueue new.waiting new.distances → new.waiting.count ≡ 0
    → IsSearch state from new × ((e : Edge) → IsEdge state.instance e → IsSettledBy state new e)
emptied state from old new search settled is queue none = (
  search_taken state from old new search is queue (λ v waits. absurd (omega (arith, queue.placed.low v, none, waits))),
  λ e is_edge. subst (λ (f : Found). IsSettledBy state f e) (sym is) (settled e is_edge),
)
