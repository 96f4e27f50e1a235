-- One push from a node with a deficit, and all of them.
use Rattle.std.proofs.Common.{◌≡◌, ℕ, ◌+◌, ◌-◌, ◌<◌, ◌≤◌, ◌∙◌, sym, refl, ap, subst, List, length, arith, ⊎_elim, slice_index, get_or, length-set, All}
use Rattle.std.proofs.lemmas.Bool.{cases_lt}
use Rattle.flow_model.specs.declared.edges.Edge.{Edge}
use Rattle.flow_model.specs.Networks.{IsEdge, IsTight, tail, head, residual}
use Rattle.flow_model.specs.Pushes.{Leads, IsSimple}
use Rattle.flow_model.proofs.Lists.{set_at}
use Rattle.flow_parts.specs.Searches.{lowered, AreLowered}
use Rattle.flow_sparse.specs.States.{State, IsState, IsReady, IsHigh, IsReached, CanPush, pushed, first_sum}
use Rattle.flow_sparse.specs.Searches.{Found, IsSearch, IsGoal, IsIdle, KeepsRoom, IsSettledBy}
use Rattle.flow_sparse.specs.Repairs.{IsRepaired, Repairs}
use Rattle.flow_sparse.proofs.Sums.{first_sum-some}
use Rattle.flow_sparse.proofs.Levels.{ends_within}
use Rattle.flow_sparse.proofs.Lowered.{lowered_is_ready}
use Rattle.flow_sparse.proofs.Distances.{reached, goal_found}
use Rattle.flow_sparse.proofs.Pushed.{pushed_is_ready, path_lengths}

-- tight under the lowered potentials
tight_lowered : (s : State) (found : Found) (potentials : List ℕ) (e : Edge) → IsState s → AreLowered s.instance.steps s.potentials found.distances found.limit potentials
    → IsTight s.instance s.flows (lowered s.potentials found.distances found.limit) e → IsTight s.instance s.flows (slice_index potentials) e
tight_lowered s found potentials e fits low tight =
    let ends = ends_within s.instance fits.in_range e tight.is_edge in
    record { is_edge = tight.is_edge; room = tight.room; tight = omega (arith, tight.tight, low (head s.instance.arcs e) ends.1, low (tail s.instance.arcs e) ends.0) }

module _ (s : State) (from amount : ℕ) (found : Found) (potentials : List ℕ) (path : List Edge) (ready : IsReady s) (high : IsHigh s) (search : IsSearch s from found)
    (settled : (e : Edge) → IsEdge s.instance e → IsSettledBy s found e) (deficit : 0 < slice_index s.deficit from) (low : AreLowered s.instance.steps s.potentials found.distances found.limit potentials)
    (each : length potentials ≡ length s.potentials) (tight : All (IsTight s.instance s.flows (lowered s.potentials found.distances found.limit)) path) (leads : Leads s.instance.arcs from path found.goal)
    (room : All (λ e. amount ≤ residual s.instance s.flows e) path) (simple : IsSimple path) (some : 0 < amount) (few : amount ≤ slice_index s.deficit from) (less : amount ≤ slice_index s.excess found.goal) where
  abbrev pub middle : State
  middle = record s { potentials = potentials }

  is : IsReached s from found.distances found.limit
  is = reached s from found search settled

  goal : IsGoal s found
  goal = goal_found s from found ready high search settled deficit

  pub both : IsReady middle × IsHigh middle
  both = lowered_is_ready s from found.limit found.distances ready high is deficit potentials (omega (arith, each, ready.fits.each_node)) low

  pub can : CanPush middle from found.goal path amount
  can =
      record {
        from_within = search.tree.from_within;
        to_within = goal.within;
        deficit = few;
        excess = less;
        leads = leads;
        tight = λ k d h. tight_lowered s found potentials (get_or path k d) ready.fits low (tight k d h);
        room = room;
        simple = simple;
      }

  pub repairs : Repairs s (pushed middle from found.goal path amount) from × (first_sum (pushed middle from found.goal path amount).excess (s.instance.steps + 1) < first_sum s.excess (s.instance.steps + 1))
  repairs =
      let done = pushed_is_ready middle from found.goal amount path both.0 both.1 can in
      let lengths = path_lengths middle from found.goal amount path both.0 both.1 can in (
        record {
          ready = done.0;
          high = done.1;
          same = record {
            instance = refl;
            inner = lengths.inner;
            outer = omega (arith, lengths.outer, ready.fits.each_arc);
            potentials = each;
            excess = length-set s.excess found.goal (slice_index s.excess found.goal - amount);
            deficit = length-set s.deficit from (slice_index s.deficit from - amount);
          };
          others = λ other n. (set_at s.deficit from other (slice_index s.deficit from - amount) (omega (arith, search.tree.from_within, ready.fits.each_deficit))).1 n;
          less = omega (arith, done.2);
        },
        omega (arith, done.2, some),
      )

-- nothing happened
pub Repairs-refl : (s : State) (node : ℕ) → IsReady s → IsHigh s → Repairs s s node
Repairs-refl s node ready high =
    record { ready = ready; high = high; same = record { instance = refl; inner = refl; outer = refl; potentials = refl; excess = refl; deficit = refl }; others = λ other n. refl; less = omega arith }

pub repaired_after : (a b c : State) → IsRepaired a b → IsRepaired b c → IsRepaired a c
repaired_after a b c before after =
    record {
      instance = after.instance ∙ before.instance;
      inner = after.inner ∙ before.inner;
      outer = after.outer ∙ before.outer;
      potentials = after.potentials ∙ before.potentials;
      excess = after.excess ∙ before.excess;
      deficit = after.deficit ∙ before.deficit;
    }

-- one after the other
pub Repairs-trans : (a b c : State) (node : ℕ) → Repairs a b node → Repairs b c node → Repairs a c node
Repairs-trans a b c node before after =
    record {
      ready = after.ready;
      high = after.high;
      same = repaired_after a b c before.same after.same;
      others = λ other n. after.others other n ∙ before.others other n;
      less =
          let e : b.instance.steps + 1 ≡ a.instance.steps + 1 = ap (λ i. i.steps + 1) before.same.instance in
          omega (arith, before.less, after.less, ap (first_sum c.excess) e, ap (first_sum b.excess) e);
    }

-- if no node has a deficit, none has an excess
pub no_excess : (s : State) → IsState s → ((node : ℕ) → node ≤ s.instance.steps → slice_index s.deficit node ≡ 0) → first_sum s.excess (s.instance.steps + 1) ≡ 0
no_excess s fits none =
    ⊎_elim
    (λ (some : 0 < first_sum s.deficit (s.instance.steps + 1)).
    let e : 0 + (s.instance.steps + 1) ≡ s.instance.steps + 1 = omega arith in
    let found = first_sum-some s.deficit 0 (s.instance.steps + 1) (omega (arith, some, ap (first_sum s.deficit) e)) in
    absurd (omega (arith, found.3, none found.0 (omega (arith, found.2)))))
    (λ (zero_sum : first_sum s.deficit (s.instance.steps + 1) ≤ 0). omega (arith, fits.total))
    (cases_lt 0 (first_sum s.deficit (s.instance.steps + 1)))

-- the same of what equals the parts
pub can_given : (s low : State) (from goal amount : ℕ) (found : Found) (potentials : List ℕ) (path given : List Edge) → low ≡ record s { potentials = potentials } → goal ≡ found.goal → given ≡ path
    → CanPush (record s { potentials = potentials }) from found.goal path amount → CanPush low from goal given amount
can_given s low from goal amount found potentials path given same is taken can =
    subst (λ (x : State). CanPush x from goal given amount) (sym same)
    (subst (λ (g : ℕ). CanPush (record s { potentials = potentials }) from g given amount) (sym is) (subst (λ (es : List Edge). CanPush (record s { potentials = potentials }) from found.goal es amount) (sym taken) can))

pub pushed_given : (s low new : State) (from goal amount : ℕ) (found : Found) (potentials : List ℕ) (path given : List Edge) → low ≡ record s { potentials = potentials } → goal ≡ found.goal → given ≡ path → new ≡ pushed low from goal given amount
    → new ≡ pushed (record s { potentials = potentials }) from found.goal path amount
pushed_given s low new from goal amount found potentials path given same is taken done =
    done
    ∙ ap (λ (x : State). pushed x from goal given amount) same
    ∙ ap (λ (g : ℕ). pushed (record s { potentials = potentials }) from g given amount) is
    ∙ ap (λ (es : List Edge). pushed (record s { potentials = potentials }) from found.goal es amount) taken

pub repairs_given : (s low new : State) (from to amount : ℕ) (path : List Edge) → new ≡ pushed low from to path amount
    → Repairs s (pushed low from to path amount) from × (first_sum (pushed low from to path amount).excess (s.instance.steps + 1) < first_sum s.excess (s.instance.steps + 1))
    → Repairs s new from × (first_sum new.excess (s.instance.steps + 1) < first_sum s.excess (s.instance.steps + 1))
repairs_given s low new from to amount path done both =
    subst (λ (x : State). Repairs s x from × (first_sum x.excess (s.instance.steps + 1) < first_sum s.excess (s.instance.steps + 1))) (sym done) both

-- where there is as much room, a search can begin
pub idle_kept : (steps : ℕ) (old new : Found) → IsIdle steps old → KeepsRoom old new → IsIdle steps new
idle_kept steps old new idle keeps =
    record {
      each_distance = omega (arith, idle.each_distance, keeps.each_distance);
      each_parent = omega (arith, idle.each_parent, keeps.each_parent);
      each_place = keeps.each_place;
      placed = keeps.placed;
      none_waits = keeps.none_waits;
    }

pub room_again : (steps : ℕ) (found : Found) → IsIdle steps found → KeepsRoom found found
room_again steps found idle = record { each_distance = refl; each_parent = refl; each_place = idle.each_place; placed = idle.placed; none_waits = idle.none_waits }

pub room_after : (a b c : Found) → KeepsRoom a b → KeepsRoom b c → KeepsRoom a c
room_after a b c before after =
    record {
      each_distance = after.each_distance ∙ before.each_distance;
      each_parent = after.each_parent ∙ before.each_parent;
      each_place = after.each_place;
      placed = after.placed;
      none_waits = after.none_waits;
    }
