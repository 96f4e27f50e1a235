-- Searches: how one begins, and what it keeps where a node is found nearer.
use Rattle.std.proofs.Common.{◌≡◌, ◌≢◌, ℕ, ◌+◌, ◌<◌, ◌≤◌, ◌∙◌, sym, ap, subst, List, length, arith, ⊎_elim, get_or, set, sum, length-set}
use Rattle.std.proofs.lemmas.Bool.{cases_eq, cases_lt}
use Rattle.std.proofs.lemmas.List.Sums.{sum_by-set}
use Rattle.flow_model.specs.declared.edges.Edge.{Edge}
use Rattle.flow_model.specs.Networks.{tail, head, gain, residual, IsEdge}
use Rattle.flow_network.specs.States.{State}
use Rattle.flow_model.proofs.Lists.{set_at}
use Rattle.flow_parts.proofs.EdgeLists.{ends_within}
use Rattle.flow_parts.specs.Queues.{IsQueue, Leaves}
use Rattle.flow_parts.specs.Searches.{IsTree, at_tail}
use Rattle.flow_parts.proofs.Trees.{tree_more}
use Rattle.flow_solver.specs.Searches.{FoundToLast, WaitsNowhere, IsReady, IsSearchToLast, IsSettledToLast, AreSettledToLast, Enters, NearsToLast, above_first, limit_of}

-- the tree of a search from the first node
abbrev pub IsTreeFromFirst : State → List ℕ → List Edge → Type 0
IsTreeFromFirst state distances parents = IsTree state.instance state.flows state.potentials 0 (above_first state) distances parents

-- the queue alone changed
pub search_taken : (state : State) (old new : FoundToLast) → IsSearchToLast state old → new ≡ record old { waiting = new.waiting } → IsQueue new.waiting new.distances → IsSearchToLast state new
search_taken state old new search is queue =
    record {
      tree = subst (λ (f : FoundToLast). IsTreeFromFirst state f.distances f.parents) (sym is) search.tree;
      each_distance = omega (arith, search.each_distance, ap (λ (f : FoundToLast). length f.distances) is);
      each_parent = omega (arith, search.each_parent, ap (λ (f : FoundToLast). length f.parents) is);
      queue = queue;
      small_stack = omega (arith, search.small_stack, ap (λ (f : FoundToLast). length f.stack) is);
      stack_fits = omega (arith, search.stack_fits, ap (λ (f : FoundToLast). length f.stack) is, ap (λ (f : FoundToLast). f.depth) is);
      stacked = subst (λ (f : FoundToLast). (p : ℕ) → p < f.depth → get_or f.stack p 0 ≤ state.instance.steps) (sym is) search.stacked;
    }

-- the stack alone lost some
pub search_popped : (state : State) (old new : FoundToLast) → IsSearchToLast state old → new ≡ record old { depth = new.depth } → new.depth ≤ old.depth → IsSearchToLast state new
search_popped state old new search is less =
    subst (λ (f : FoundToLast). IsSearchToLast state f) (sym is) (record {
      tree = search.tree;
      each_distance = search.each_distance;
      each_parent = search.each_parent;
      queue = search.queue;
      small_stack = search.small_stack;
      stack_fits = omega (arith, search.stack_fits, less);
      stacked = λ p low. search.stacked p (omega (arith, low, less));
    })

-- no distance changed
pub NearsToLast-refl : (state : State) (found : FoundToLast) → IsSearchToLast state found → NearsToLast state found found
NearsToLast-refl state found search = record { search = search; rests = λ v h. h; stays = λ e is rests settled. settled; falls = omega arith }

-- one after the other
pub NearsToLast-trans : (state : State) (a b c : FoundToLast) → NearsToLast state a b → NearsToLast state b c → NearsToLast state a c
NearsToLast-trans state a b c before after =
    record {
      search = after.search;
      rests = λ v h. before.rests v (after.rests v h);
      stays = λ e is rests settled. after.stays e is rests (before.stays e is (after.rests (tail state.instance.arcs e) rests) settled);
      falls = omega (arith, before.falls, after.falls);
    }

-- the head of an edge with room is nearer along it, and waits
pub nears_more : (state : State) (old low new : FoundToLast) (e : Edge) (near : ℕ) → IsReady state → IsSearchToLast state old → IsEdge state.instance e → 0 < residual state.instance state.flows e
    → near + (gain state.instance.arcs e + get_or state.potentials (head state.instance.arcs e) 0) ≡ at_tail state.instance.arcs state.potentials old.distances e
    → near < get_or old.distances (head state.instance.arcs e) 0
    → low ≡ record old { distances = set old.distances (head state.instance.arcs e) near; parents = set old.parents (head state.instance.arcs e) e }
    → Enters low new (head state.instance.arcs e) → IsQueue new.waiting new.distances → NearsToLast state old new
nears_more state old low new e near ready search is_edge room value nearer is_low enters queue =
    record {
      search = record {
        tree = subst (λ (ps : List Edge). IsTreeFromFirst state new.distances ps) (sym parents)
            (subst (λ (ds : List ℕ). IsTreeFromFirst state ds (set old.parents (head state.instance.arcs e) e)) (sym distances)
            (tree_more state.instance state.flows state.potentials 0 (above_first state) old.distances old.parents e near search.tree is_edge room (ready.valid e is_edge) (ends_within state.instance ready.fits.in_range e is_edge).1 value nearer));
        each_distance = omega (arith, search.each_distance, ap length distances, length-set old.distances (head state.instance.arcs e) near);
        each_parent = omega (arith, search.each_parent, ap length parents, length-set old.parents (head state.instance.arcs e) e);
        queue = queue;
        small_stack = omega (arith, enters.stack, ap (λ (f : FoundToLast). length f.stack) is_low, search.small_stack);
        stack_fits = omega (arith, enters.stack, enters.fits);
        stacked = λ p h.
            ⊎_elim (λ (own : get_or new.stack p 0 ≡ head state.instance.arcs e). omega (arith, own, (ends_within state.instance ready.fits.in_range e is_edge).1))
            (λ (was : (p < low.depth) × (get_or new.stack p 0 ≡ get_or low.stack p 0)).
            omega (arith, was.1, search.stacked p (omega (arith, was.0, ap (λ (f : FoundToLast). f.depth) is_low)), ap (λ (f : FoundToLast). get_or f.stack p 0) is_low)) (enters.stacked p h);
      };
      rests = rests;
      stays = stays;
      falls = omega (
        arith,
        sum_by-set (λ (k : ℕ). k) old.distances (head state.instance.arcs e) near 0 inside,
        ap sum distances,
        enters.more,
        ap (λ (f : FoundToLast). f.waiting.count) is_low,
        ap (λ (f : FoundToLast). f.depth) is_low,
      );
    }
  where
    distances : new.distances ≡ set old.distances (head state.instance.arcs e) near
    distances = enters.distances ∙ ap (λ (f : FoundToLast). f.distances) is_low

    parents : new.parents ≡ set old.parents (head state.instance.arcs e) e
    parents = enters.parents ∙ ap (λ (f : FoundToLast). f.parents) is_low

    inside : head state.instance.arcs e < length old.distances
    inside = omega (arith, search.each_distance, (ends_within state.instance ready.fits.in_range e is_edge).1)

    rests : (v : ℕ) → WaitsNowhere new v → WaitsNowhere old v
    rests v h =
        let before : WaitsNowhere low v = enters.rests v h in
        record {
          unqueued = sym (ap (λ (f : FoundToLast). get_or f.waiting.places v 0) is_low) ∙ before.unqueued;
          unstacked = λ p within same. before.unstacked p (omega (arith, within, ap (λ (f : FoundToLast). f.depth) is_low)) (ap (λ (f : FoundToLast). get_or f.stack p 0) is_low ∙ same);
        }

    no_more : (v : ℕ) → get_or new.distances v 0 ≤ get_or old.distances v 0
    no_more v =
        let here : get_or new.distances v 0 ≡ get_or (set old.distances (head state.instance.arcs e) near) v 0 = ap (λ ds. get_or ds v 0) distances in
        ⊎_elim (λ (is : v ≡ head state.instance.arcs e). omega (arith, here, (set_at old.distances (head state.instance.arcs e) v near inside).0 is, nearer, ap (λ k. get_or old.distances k 0) is))
        (λ (n : v ≡ head state.instance.arcs e → ⊥). omega (arith, here, (set_at old.distances (head state.instance.arcs e) v near inside).1 n)) (cases_eq v (head state.instance.arcs e))

    stays : (f : Edge) → IsEdge state.instance f → WaitsNowhere new (tail state.instance.arcs f) → IsSettledToLast state old.distances f → IsSettledToLast state new.distances f
    stays f is resting settled = λ has.
        let t : ℕ = tail state.instance.arcs f in
        let other : t ≢ head state.instance.arcs e = λ same. enters.waits (subst (λ (k : ℕ). WaitsNowhere new k) same resting) in
        let kept : get_or new.distances t 0 ≡ get_or old.distances t 0 = ap (λ ds. get_or ds t 0) distances ∙ (set_at old.distances (head state.instance.arcs e) t near inside).1 other in
        omega (arith, settled has, kept, no_more state.instance.steps, no_more (head state.instance.arcs f))

-- after a node was taken out and the edges out of it were relaxed
pub next_settled : (state : State) (old taken new : FoundToLast) (node : ℕ) → AreSettledToLast state old → taken.distances ≡ old.distances → ((v : ℕ) → v ≢ node → WaitsNowhere taken v → WaitsNowhere old v)
    → NearsToLast state taken new → (WaitsNowhere new node → (e : Edge) → IsEdge state.instance e → tail state.instance.arcs e ≡ node → IsSettledToLast state new.distances e) → AreSettledToLast state new
next_settled state old taken new node settled same others nears own = λ e is rests.
    let t : ℕ = tail state.instance.arcs e in
    ⊎_elim
    (λ (at : t ≡ node). own (subst (λ (k : ℕ). WaitsNowhere new k) at rests) e is at)
    (λ (other : t ≡ node → ⊥).
    nears.stays e is rests (subst (λ (ds : List ℕ). IsSettledToLast state ds e) (sym same) (settled e is (others t other (nears.rests t rests)))))
    (cases_eq t node)

-- a node taken from the stack
pub rests_after_pop : (old taken : FoundToLast) (node v : ℕ) → taken ≡ record old { depth = taken.depth } → taken.depth + 1 ≡ old.depth → node ≡ get_or old.stack taken.depth 0 → v ≢ node → WaitsNowhere taken v → WaitsNowhere old v
rests_after_pop old taken node v is depth last other rests =
    record {
      unqueued = sym (ap (λ (f : FoundToLast). get_or f.waiting.places v 0) is) ∙ rests.unqueued;
      unstacked = λ p within same.
          ⊎_elim
          (λ (h : p < taken.depth). rests.unstacked p h (ap (λ (f : FoundToLast). get_or f.stack p 0) is ∙ same))
          (λ (h : taken.depth ≤ p). let at : p ≡ taken.depth = omega arith in other (sym same ∙ ap (λ k. get_or old.stack k 0) at ∙ sym last))
          (cases_lt p taken.depth);
    }

-- a node taken from the queue
pub rests_after_take : (old taken : FoundToLast) (node v : ℕ) → taken ≡ record old { waiting = taken.waiting } → Leaves old.waiting taken.waiting old.distances node → v ≢ node → WaitsNowhere taken v → WaitsNowhere old v
rests_after_take old taken node v is leaves other rests =
    record {
      unqueued =
          ⊎_elim (λ (h : 0 < get_or old.waiting.places v 0). absurd (omega (arith, leaves.quits.stays v h other, rests.unqueued))) (λ (h : get_or old.waiting.places v 0 ≤ 0). omega arith)
          (cases_lt 0 (get_or old.waiting.places v 0));
      unstacked = λ p within same. rests.unstacked p (omega (arith, within, ap (λ (f : FoundToLast). f.depth) is)) (ap (λ (f : FoundToLast). get_or f.stack p 0) is ∙ same);
    }

-- no node waits that is nearer than the last
pub all_settled : (state : State) (old taken : FoundToLast) → IsReady state → AreSettledToLast state old → old.depth ≡ 0 → taken.distances ≡ old.distances
    → ((v : ℕ) → v ≤ state.instance.steps → 0 < get_or old.waiting.places v 0 → limit_of state old.distances ≤ get_or old.distances v 0)
    → (e : Edge) → IsEdge state.instance e → IsSettledToLast state taken.distances e
all_settled state old taken ready settled unstacked same far_off e is =
    let t : ℕ = tail state.instance.arcs e in
    subst (λ (ds : List ℕ). IsSettledToLast state ds e) (sym same)
    (λ has.
    ⊎_elim
    (λ (waits : 0 < get_or old.waiting.places t 0). omega (arith, far_off t (ends_within state.instance ready.fits.in_range e is).0 waits, ready.valid e is has))
    (λ (none : get_or old.waiting.places t 0 ≤ 0). settled e is (record { unqueued = omega arith; unstacked = λ p h. absurd (omega arith) }) has)
    (cases_lt 0 (get_or old.waiting.places t 0)))
