-- What the arcs hold after a change.
use Rattle.std.proofs.Common.{◌≡◌, ◌≢◌, ℕ, zero, ◌+◌, ◌-◌, ◌^◌, ◌<◌, ◌≤◌, ◌∙◌, sym, refl, ap, subst, cond, List, length, arith, ⊎_elim, get_or, set, length-set}
use Rattle.std.specs.Prelude.{None, Some}
use Rattle.std.specs.declared.option.Option.{Option}
use Rattle.std.proofs.lemmas.Bool.{cases_lt, cases_eq, eq-eqb, ne_eqb}
use Rattle.std.proofs.lemmas.List.{get_or_past}
use Rattle.flow_model.specs.declared.arcs.OuterArc.{OuterArc}
use Rattle.flow_model.specs.Instances.{Instance, IsInstance, IsArc, no_arc, arc_at, load_at}
use Rattle.flow_model.specs.Networks.{tail}
use Rattle.flow_model.proofs.Lists.{set_at}
use Rattle.flow_parts.specs.OuterEdges.{tail_of, AreListed, Lists}
use Rattle.flow_parts.specs.Ranks.{Ranks, rank_at, lesser, IsEmpty, ChangesRank, IsFirst}
use Rattle.flow_parts.proofs.EdgeLists.{edge_of-arc}
use Rattle.flow_uniform.specs.Cuts.{flow_where, ends_at, AreCuts}
use Rattle.flow_uniform.specs.Holdings.{Holding, IsHeld, EntersOne, Enter, rank_of}
use Rattle.flow_uniform.proofs.Parts.{flow_where-set, flow_where-le}
use Rattle.flow_uniform.proofs.Covering.{load_some}
use Rattle.flow_uniform.proofs.CutArcs.{IsFarthest}

-- a key that has a rank is one of the keys
key_within : (ranks : Ranks) (key rank : ℕ) → rank_at ranks key ≡ Some rank → key < length ranks
key_within ranks key rank is =
    ⊎_elim
    (λ (h : key < length ranks). h)
    (λ (h : length ranks ≤ key). let none : None ≡ Some rank = sym (get_or_past ranks key None h) ∙ is in cc)
    (cases_lt key (length ranks))

-- the sums at the nodes where one flow is set
pub leaving_set : (instance : Instance) (flows leaving : List ℕ) (i x : ℕ) → length flows ≡ length instance.arcs → length leaving ≡ instance.steps + 1 → i < length instance.arcs → (arc_at instance.arcs i).end ≤ instance.steps
    → ((node : ℕ) → node ≤ instance.steps → get_or leaving node 0 ≡ flow_where (ends_at node) instance.arcs flows)
    → (sum_then : ℕ) → sum_then + get_or flows i 0 ≡ get_or leaving (arc_at instance.arcs i).end 0 + x
    → (node : ℕ) → node ≤ instance.steps → get_or (set leaving (arc_at instance.arcs i).end sum_then) node 0 ≡ flow_where (ends_at node) instance.arcs (set flows i x)
leaving_set instance flows leaving i x each_arc each_node within in_chain sums sum_then is node low =
    let arc : OuterArc = arc_at instance.arcs i in
    let at = set_at leaving arc.end node sum_then (omega arith) in
    let moves = flow_where-set (ends_at node) instance.arcs flows i x each_arc within in
    ⊎_elim
    (λ (e : node ≡ arc.end).
    let yes = eq-eqb arc.end node (sym e) in
    omega (arith, at.0 e, moves, sums node low, ap (λ k. get_or leaving k 0) e, ap (λ b. cond b (get_or flows i 0) 0) yes, ap (λ b. cond b x 0) yes))
    (λ (n : node ≢ arc.end).
    let no = ne_eqb arc.end node (λ e. n (sym e)) in
    omega (arith, at.1 n, moves, sums node low, ap (λ b. cond b (get_or flows i 0) 0) no, ap (λ b. cond b x 0) no))
    (cases_eq node arc.end)

-- no node is left by more than a flow of each arc
pub leaving_low : (instance : Instance) (held : Holding) (out node : ℕ) → IsInstance instance → IsHeld instance held out → node ≤ instance.steps → get_or held.leaving node 0 ≤ 2 ^ 74
leaving_low instance held out node fits is low =
    omega (arith, is.leaving node low, flow_where-le (ends_at node) instance.arcs held.flows (2 ^ 48) is.low, fits.few_arcs)

-- an arc without flow has no rank
rank_of-unheld : (instance : Instance) (held : Holding) (i : ℕ) → IsHeld instance held (length instance.arcs) → i < length instance.arcs → get_or held.flows i 0 ≡ 0 → rank_at held.ranks i ≡ None
rank_of-unheld instance held i is within fresh = none (rank_at held.ranks i) refl
  where
    none : (r : Option ℕ) → rank_at held.ranks i ≡ r → rank_at held.ranks i ≡ None
    none None e = e
    none (Some r) e = absurd (omega (arith, (is.holds i r (λ own. omega arith) e).0))

-- one more arc has flow
pub hold_more : (instance : Instance) (flows leaving : List ℕ) (old new : Ranks) (i : ℕ) → IsInstance instance
    → IsHeld instance (record { flows = flows; leaving = leaving; ranks = old }) (length instance.arcs) → i < length instance.arcs → get_or flows i 0 ≡ 0
    → ChangesRank old new i (Some (lesser (rank_at old i) (rank_of instance i)))
    → IsHeld instance (record {
      flows = set flows i (arc_at instance.arcs i).weight;
      leaving = set leaving (arc_at instance.arcs i).end (get_or leaving (arc_at instance.arcs i).end 0 + (arc_at instance.arcs i).weight);
      ranks = new;
    }) (length instance.arcs)
hold_more instance flows leaving old new i fits held within fresh change =
    let arc : OuterArc = arc_at instance.arcs i in
    let is_arc : IsArc instance.steps arc = fits.arcs_fit i no_arc within in
    let flow : (j : ℕ) → (j ≡ i → get_or (set flows i arc.weight) j 0 ≡ arc.weight) × (j ≢ i → get_or (set flows i arc.weight) j 0 ≡ get_or flows j 0) = λ j. set_at flows i j arc.weight (omega (arith, held.each_arc)) in
    let own : rank_at new i ≡ Some (rank_of instance i) =
    change.changed ∙ ap (λ r. Some (lesser r (rank_of instance i))) (rank_of-unheld instance (record { flows = flows; leaving = leaving; ranks = old }) i held within fresh) in
    record {
      each_arc = length-set flows i arc.weight ∙ held.each_arc;
      each_node = length-set leaving arc.end (get_or leaving arc.end 0 + arc.weight) ∙ held.each_node;
      each_key = change.keys ∙ held.each_key;
      low = λ j h. ⊎_elim (λ (e : j ≡ i). omega (arith, (flow j).0 e, is_arc.small_weight)) (λ (n : j ≢ i). omega (arith, (flow j).1 n, held.low j h)) (cases_eq j i);
      leaving = leaving_set instance flows leaving i arc.weight held.each_arc held.each_node within is_arc.within held.leaving (get_or leaving arc.end 0 + arc.weight) (omega (arith, fresh));
      ranked = λ j h other some.
          ⊎_elim
          (λ (e : j ≡ i). subst (λ k. rank_at new k ≡ Some (rank_of instance k)) (sym e) own)
          (λ (n : j ≢ i). change.others j n ∙ held.ranked j h other (omega (arith, (flow j).1 n)))
          (cases_eq j i);
      holds = λ j rank other is.
          ⊎_elim
          (λ (e : j ≡ i).
          let both : Some (rank_of instance i) ≡ Some rank = sym own ∙ ap (rank_at new) (sym e) ∙ is in
          let equal : rank_of instance i ≡ rank = cc in
          (omega (arith, (flow j).0 e, is_arc.some_weight), sym equal ∙ ap (rank_of instance) (sym e)))
          (λ (n : j ≢ i).
          let was = held.holds j rank other (sym (change.others j n) ∙ is) in
          (omega (arith, (flow j).1 n, was.0), was.1))
          (cases_eq j i);
    }

-- of the arcs that start at the step, those from the number on have entered
pub record EntersFrom (arcs : List OuterArc) (t left : ℕ) (old new : List ℕ) : Type 0 where
  pub whole : (i : ℕ) → i < length arcs → left ≤ i → (arc_at arcs i).start ≡ t → 0 < (arc_at arcs i).cost → get_or new i 0 ≡ (arc_at arcs i).weight
  pub nothing : (i : ℕ) → i < length arcs → left ≤ i → (arc_at arcs i).start ≡ t → (arc_at arcs i).cost ≡ 0 → get_or new i 0 ≡ 0
  pub others : (i : ℕ) → i < length arcs → (arc_at arcs i).start ≢ t → get_or new i 0 ≡ get_or old i 0
  pub waiting : (i : ℕ) → i < length arcs → i < left → get_or new i 0 ≡ get_or old i 0

-- an arc's number is that of the edge out of its start
pub tail_of-arc : (arcs : List OuterArc) (i : ℕ) → i < length arcs → tail_of arcs i ≡ (arc_at arcs i).start
tail_of-arc arcs i within = ap (tail arcs) (edge_of-arc (length arcs) i within)

pub enters_none : (instance : Instance) (lists : Lists) (t : ℕ) (flows : List ℕ) → AreListed instance lists (length instance.arcs) → t ≤ instance.steps → EntersFrom instance.arcs t (get_or lists.first t 0) flows flows
enters_none instance lists t flows listed low =
    let none : (i : ℕ) → i < length instance.arcs → get_or lists.first t 0 ≤ i → (arc_at instance.arcs i).start ≡ t → ⊥ = λ i h late e.
    listed.none_before t i low late (omega arith) (tail_of-arc instance.arcs i h ∙ e) in
    record {
      whole = λ i h late e some. absurd (none i h late e);
      nothing = λ i h late e z. absurd (none i h late e);
      others = λ i h n. refl;
      waiting = λ i h l. refl;
    }

-- the next arc of the list has entered
pub enters_more : (instance : Instance) (lists : Lists) (t number : ℕ) (old flows new : List ℕ) → AreListed instance lists (length instance.arcs) → number < length instance.arcs → tail_of instance.arcs number ≡ t
    → EntersFrom instance.arcs t (number + 1) old flows → EntersOne instance.arcs number flows new → EntersFrom instance.arcs t (get_or lists.next number 0) old new
enters_more instance lists t number old flows new listed within here before enters =
    let arcs : List OuterArc = instance.arcs in
    let next : ℕ = get_or lists.next number 0 in
    let late : (i : ℕ) → i < length arcs → next ≤ i → (arc_at arcs i).start ≡ t → i ≢ number → number + 1 ≤ i = λ i h low e other.
    ⊎_elim
    (λ (k : i < number). absurd (listed.none_between number i (omega arith) low k (tail_of-arc arcs i h ∙ e ∙ sym here)))
    (λ (k : number ≤ i). omega arith)
    (cases_lt i number) in
    record {
      whole = λ i h low e some.
          ⊎_elim
          (λ (own : i ≡ number). subst (λ k. get_or new k 0 ≡ (arc_at arcs k).weight) (sym own) (enters.whole (subst (λ k. 0 < (arc_at arcs k).cost) own some)))
          (λ (n : i ≢ number). enters.others i n ∙ before.whole i h (late i h low e n) e some)
          (cases_eq i number);
      nothing = λ i h low e z.
          ⊎_elim
          (λ (own : i ≡ number). subst (λ k. get_or new k 0 ≡ 0) (sym own) (enters.nothing (subst (λ k. (arc_at arcs k).cost ≡ 0) own z)))
          (λ (n : i ≢ number). enters.others i n ∙ before.nothing i h (late i h low e n) e z)
          (cases_eq i number);
      others = λ i h n. enters.others i (λ own. n (ap (λ k. (arc_at arcs k).start) own ∙ sym (tail_of-arc arcs number within) ∙ here)) ∙ before.others i h n;
      waiting = λ i h low. enters.others i (λ own. omega (arith, listed.next_low number (omega arith))) ∙ before.waiting i h (omega (arith, listed.next_low number (omega arith)));
    }

pub enters_all : (arcs : List OuterArc) (t : ℕ) (old new : List ℕ) → length new ≡ length arcs → EntersFrom arcs t 0 old new → Enter arcs t old new
enters_all arcs t old new each enters =
    record { each_arc = each; whole = λ i h. enters.whole i h (omega arith); nothing = λ i h. enters.nothing i h (omega arith); others = enters.others }

-- no flow is more than what leaves at the end of its arc
pub flow_leaves : (instance : Instance) (held : Holding) (out i : ℕ) → IsHeld instance held out → i < length instance.arcs → (arc_at instance.arcs i).end ≤ instance.steps
    → get_or held.flows i 0 ≤ get_or held.leaving (arc_at instance.arcs i).end 0
flow_leaves instance held out i is within in_chain =
    let arc : OuterArc = arc_at instance.arcs i in
    let yes = eq-eqb arc.end arc.end refl in
    omega (
      arith,
      is.leaving arc.end in_chain,
      flow_where-set (ends_at arc.end) instance.arcs held.flows i 0 is.each_arc within,
      ap (λ b. cond b (get_or held.flows i 0) 0) yes,
      ap (λ b. cond b zero 0) yes,
    )

-- the arc that was taken is out
pub taken_held : (instance : Instance) (flows leaving : List ℕ) (old new : Ranks) (i : ℕ) → IsHeld instance (record { flows = flows; leaving = leaving; ranks = old }) (length instance.arcs) → ChangesRank old new i None
    → IsHeld instance (record { flows = flows; leaving = leaving; ranks = new }) i
taken_held instance flows leaving old new i held change =
    record {
      each_arc = held.each_arc;
      each_node = held.each_node;
      each_key = change.keys ∙ held.each_key;
      low = held.low;
      leaving = held.leaving;
      ranked = λ j h other some. change.others j other ∙ held.ranked j h (λ e. omega arith) some;
      holds = λ j rank other is.
          let was : rank_at old j ≡ Some rank = sym (change.others j other) ∙ is in
          held.holds j rank (λ e. omega (arith, held.each_key, key_within old j rank was)) was;
    }

-- the arc that was out has less flow, and its rank if it has any
pub lower_held : (instance : Instance) (flows leaving : List ℕ) (old new : Ranks) (i amount : ℕ) (rank : Option ℕ) → IsInstance instance → IsHeld instance (record { flows = flows; leaving = leaving; ranks = old }) i
    → i < length instance.arcs → amount ≤ get_or flows i 0 → ChangesRank old new i rank
    → (0 < get_or flows i 0 - amount → rank ≡ Some (rank_of instance i)) → ((r : ℕ) → rank ≡ Some r → (0 < get_or flows i 0 - amount) × (r ≡ rank_of instance i))
    → IsHeld instance (record {
      flows = set flows i (get_or flows i 0 - amount);
      leaving = set leaving (arc_at instance.arcs i).end (get_or leaving (arc_at instance.arcs i).end 0 - amount);
      ranks = new;
    }) (length instance.arcs)
lower_held instance flows leaving old new i amount rank fits held within few change own_ranked own_holds =
    let arc : OuterArc = arc_at instance.arcs i in
    let is_arc : IsArc instance.steps arc = fits.arcs_fit i no_arc within in
    let less : ℕ = get_or flows i 0 - amount in
    let flow : (j : ℕ) → (j ≡ i → get_or (set flows i less) j 0 ≡ less) × (j ≢ i → get_or (set flows i less) j 0 ≡ get_or flows j 0) = λ j. set_at flows i j less (omega (arith, held.each_arc)) in
    let high = flow_leaves instance (record { flows = flows; leaving = leaving; ranks = old }) i i held within is_arc.within in
    record {
      each_arc = length-set flows i less ∙ held.each_arc;
      each_node = length-set leaving arc.end (get_or leaving arc.end 0 - amount) ∙ held.each_node;
      each_key = change.keys ∙ held.each_key;
      low = λ j h. ⊎_elim (λ (e : j ≡ i). omega (arith, (flow j).0 e, held.low i within)) (λ (n : j ≢ i). omega (arith, (flow j).1 n, held.low j h)) (cases_eq j i);
      leaving = leaving_set instance flows leaving i less held.each_arc held.each_node within is_arc.within held.leaving (get_or leaving arc.end 0 - amount) (omega (arith, high));
      ranked = λ j h other some.
          ⊎_elim
          (λ (e : j ≡ i). subst (λ k. rank_at new k ≡ Some (rank_of instance k)) (sym e) (change.changed ∙ own_ranked (omega (arith, (flow j).0 e))))
          (λ (n : j ≢ i). change.others j n ∙ held.ranked j h n (omega (arith, (flow j).1 n)))
          (cases_eq j i);
      holds = λ j r other is.
          ⊎_elim
          (λ (e : j ≡ i).
          let own = own_holds r (sym change.changed ∙ ap (rank_at new) (sym e) ∙ is) in
          (omega (arith, (flow j).0 e, own.0), own.1 ∙ ap (rank_of instance) (sym e)))
          (λ (n : j ≢ i).
          let was = held.holds j r n (sym (change.others j n) ∙ is) in
          (omega (arith, (flow j).1 n, was.0), was.1))
          (cases_eq j i);
    }

-- the first arc of the heap is one over the step that ends last
pub farthest : (instance : Instance) (cuts : List ℕ) (held : Holding) (t i rank : ℕ) → IsInstance instance → IsHeld instance held (length instance.arcs) → AreCuts instance held.flows cuts (t + 1) t
    → 0 < load_at instance.arcs held.flows t → IsFirst held.ranks i rank → IsFarthest instance.arcs held.flows t i
farthest instance cuts held t i rank fits is are some first =
    let arcs : List OuterArc = instance.arcs in
    let within : i < length arcs = omega (arith, key_within held.ranks i rank first.here, is.each_key) in
    let own = is.holds i rank (λ e. omega arith) first.here in
    let low : (j : ℕ) → j < length arcs → (arc_at arcs j).end ≤ instance.steps = λ j h. (fits.arcs_fit j no_arc h).within in
    let last : (j : ℕ) → j < length arcs → 0 < get_or held.flows j 0 → (arc_at arcs j).end ≤ (arc_at arcs i).end = λ j h flows.
    ⊎_elim
    (λ (e : j ≡ i). omega (arith, ap (λ k. (arc_at arcs k).end) e))
    (λ (n : j ≢ i).
    ⊎_elim
    (λ (l : rank < rank_of instance j). omega (arith, own.1, low i within, low j h))
    (λ (g : (rank ≡ rank_of instance j) × (i < j)). omega (arith, own.1, g.0, low i within, low j h))
    (first.least j (rank_of instance j) n (is.ranked j h (λ e. omega arith) flows)))
    (cases_eq j i) in
    let over = load_some arcs held.flows t some in
    record {
      within = within;
      spans = record {
        started = ⊎_elim (λ (h : t < (arc_at arcs i).start). absurd (omega (arith, own.0, are.unentered i within (omega arith)))) (λ (h : (arc_at arcs i).start ≤ t). h) (cases_lt t (arc_at arcs i).start);
        open_still = omega (arith, over.2.open_still, last over.0 over.1 over.3);
      };
      some = own.0;
      last = last;
    }

-- where some arc has flow, some arc has a rank
pub some_ranked : (instance : Instance) (held : Holding) (t : ℕ) → IsHeld instance held (length instance.arcs) → 0 < load_at instance.arcs held.flows t → IsEmpty held.ranks → ⊥
some_ranked instance held t is some empty =
    let over = load_some instance.arcs held.flows t some in
    let not : None ≡ Some (rank_of instance over.0) = sym (empty over.0) ∙ is.ranked over.0 over.1 (λ e. omega (arith, over.1)) over.3 in
    cc
