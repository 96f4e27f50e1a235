-- Chains of woken edges: one edge more, and the lists after a push.
use Rattle.std.proofs.Common.{◌≡◌, ◌≢◌, ◌⊎◌, ◌∙◌, ℕ, ◌+◌, ◌-◌, ◌*◌, ◌<◌, ◌≤◌, ap, refl, sym, subst, inl, inr, List, [], ◌∷◌, ◌++◌, length, length-append, arith, ⊎_elim, set, length-set, slice_index}
use Rattle.std.proofs.lemmas.Bool.{cases_eq, cases_lt}
use Rattle.std.proofs.lemmas.List.{get_or_append_left, get_or-append-add}
use Rattle.flow_model.specs.declared.edges.Edge.{Edge}
use Rattle.flow_model.specs.Instances.{Instance}
use Rattle.flow_model.specs.Networks.{head, residual}
use Rattle.flow_model.specs.Pushes.{edge_at, opposite}
use Rattle.flow_model.proofs.Lists.{set_at}
use Rattle.flow_parts.specs.OuterEdges.{edge_of, tail_of}
use Rattle.flow_parts.proofs.EdgeLists.{edge_of-arc, edge_of-back}
use Rattle.flow_sparse.specs.declared.edges.WokenEdge.{WokenEdge}
use Rattle.flow_sparse.specs.Ranges.{Ranges, AreChained, IsPlacedAt, IsSound, WasWoken, listed_at, number_of, woken_at, woken_tail, no_woken}
use Rattle.flow_sparse.specs.Searches.{IsListed, IsWokenIfShut, KeepsListed, listed_potential}
use Rattle.flow_sparse.specs.States.{State, CanPush, IsNetwork, IsReady, IsHigh, pushed}
use Rattle.flow_sparse.proofs.Entries.{entry_kept}
use Rattle.flow_sparse.proofs.Loops.{head_within, tail_within}
use Rattle.flow_sparse.proofs.Pushed.{pushed_rises}

-- the number of an edge
pub number_of-edge : (arcs k : ℕ) → k < 2 * arcs → number_of arcs (edge_of arcs k) ≡ k
number_of-edge arcs k h =
    ⊎_elim
    (λ (low : k < arcs). ap (number_of arcs) (edge_of-arc arcs k low))
    (λ (high : arcs ≤ k).
    let at : arcs + (k - arcs) ≡ k = omega arith in
    ap (λ n. number_of arcs (edge_of arcs n)) (sym at) ∙ ap (number_of arcs) (edge_of-back arcs (k - arcs)) ∙ at)
    (cases_lt k arcs)

module _ (instance : Instance) (last : List ℕ) (woken : List WokenEdge) (is : AreChained instance last woken) (node number target : ℕ) (within : node ≤ instance.steps) (low : number < 2 * length instance.arcs)
    (own : tail_of instance.arcs number ≡ node) (goes : target ≡ head instance.arcs (edge_of (length instance.arcs) number)) where
  abbrev pub one : WokenEdge
  one = record { before = slice_index last node; head = target; number = number }

  abbrev pub more : List WokenEdge
  more = woken ++ one ∷ []

  abbrev pub last_more : List ℕ
  last_more = set last node (length woken + 1)

  long : length more ≡ length woken + 1
  long = length-append woken (one ∷ [])

  pub kept : (i : ℕ) → i < length woken → woken_at more i ≡ woken_at woken i
  kept i h = get_or_append_left woken (one ∷ []) no_woken i h

  pub added : woken_at more (length woken) ≡ one
  added =
      let e : length woken + 0 ≡ length woken = omega arith in
      ap (woken_at more) (sym e) ∙ get_or-append-add woken (one ∷ []) 0 no_woken

  at : (v : ℕ) → (v ≡ node → slice_index last_more v ≡ length woken + 1) × (v ≢ node → slice_index last_more v ≡ slice_index last v)
  at v = set_at last node v (length woken + 1) (omega (arith, is.each_node, within))

  tail_kept : (i : ℕ) → i < length woken → woken_tail instance more i ≡ woken_tail instance woken i
  tail_kept i h = ap (λ (w : WokenEdge). tail_of instance.arcs w.number) (kept i h)

  tail_added : woken_tail instance more (length woken) ≡ node
  tail_added = ap (λ (w : WokenEdge). tail_of instance.arcs w.number) added ∙ own

  tail_last : (i : ℕ) → i ≡ length woken → woken_tail instance more i ≡ node
  tail_last i e = ap (woken_tail instance more) e ∙ tail_added

  pub chained_more : AreChained instance last_more more
  chained_more =
      record {
        each_node = omega (arith, length-set last node (length woken + 1), is.each_node);
        are_edges = λ i h.
            ⊎_elim
            (λ (e : i ≡ length woken). omega (arith, ap (λ (j : ℕ). (woken_at more j).number) e, ap (λ (w : WokenEdge). w.number) added, low))
            (λ (n : i ≢ length woken). let old : i < length woken = omega (arith, h, long, n) in omega (arith, ap (λ (w : WokenEdge). w.number) (kept i old), is.are_edges i old))
            (cases_eq i (length woken));
        heads = λ i h.
            ⊎_elim
            (λ (e : i ≡ length woken).
            subst (λ (w : WokenEdge). w.head ≡ head instance.arcs (edge_of (length instance.arcs) w.number)) (sym (ap (woken_at more) e ∙ added)) goes)
            (λ (n : i ≢ length woken).
            let old : i < length woken = omega (arith, h, long, n) in
            subst (λ (w : WokenEdge). w.head ≡ head instance.arcs (edge_of (length instance.arcs) w.number)) (sym (kept i old)) (is.heads i old))
            (cases_eq i (length woken));
        last_low = λ v.
            ⊎_elim (λ (e : v ≡ node). omega (arith, (at v).0 e, long)) (λ (n : v ≢ node). omega (arith, (at v).1 n, is.last_low v, long)) (cases_eq v node);
        last_here = λ v h some.
            ⊎_elim
            (λ (e : v ≡ node). tail_last (slice_index last_more v - 1) (omega (arith, (at v).0 e)) ∙ sym e)
            (λ (n : v ≢ node).
            let same = (at v).1 n in
            let some_old : 0 < slice_index last v = omega (arith, some, same) in
            ap (λ (j : ℕ). woken_tail instance more (j - 1)) same ∙ tail_kept (slice_index last v - 1) (omega (arith, some_old, is.last_low v)) ∙ is.last_here v h some_old)
            (cases_eq v node);
        none_after = λ v i h after inside here.
            ⊎_elim
            (λ (e : v ≡ node). omega (arith, (at v).0 e, after, inside, long))
            (λ (n : v ≢ node).
            ⊎_elim
            (λ (e : i ≡ length woken). n (sym here ∙ tail_last i e))
            (λ (m : i ≢ length woken).
            let old : i < length woken = omega (arith, inside, long, m) in
            is.none_after v i h (omega (arith, after, (at v).1 n)) old (sym (tail_kept i old) ∙ here))
            (cases_eq i (length woken)))
            (cases_eq v node);
        before_low = λ i h.
            ⊎_elim
            (λ (e : i ≡ length woken). omega (arith, ap (λ (j : ℕ). (woken_at more j).before) e, ap (λ (w : WokenEdge). w.before) added, is.last_low node, e))
            (λ (n : i ≢ length woken). let old : i < length woken = omega (arith, h, long, n) in omega (arith, ap (λ (w : WokenEdge). w.before) (kept i old), is.before_low i old))
            (cases_eq i (length woken));
        before_here = λ i h some.
            ⊎_elim
            (λ (e : i ≡ length woken).
            let before_is : (woken_at more i).before ≡ slice_index last node = ap (λ (j : ℕ). (woken_at more j).before) e ∙ ap (λ (w : WokenEdge). w.before) added in
            let some_old : 0 < slice_index last node = omega (arith, some, before_is) in
            ap (λ (j : ℕ). woken_tail instance more (j - 1)) before_is ∙ tail_kept (slice_index last node - 1) (omega (arith, some_old, is.last_low node)) ∙ is.last_here node within some_old ∙ sym (tail_last i e))
            (λ (n : i ≢ length woken).
            let old : i < length woken = omega (arith, h, long, n) in
            let before_is : (woken_at more i).before ≡ (woken_at woken i).before = ap (λ (w : WokenEdge). w.before) (kept i old) in
            let some_old : 0 < (woken_at woken i).before = omega (arith, some, before_is) in
            ap (λ (j : ℕ). woken_tail instance more (j - 1)) before_is ∙ tail_kept ((woken_at woken i).before - 1) (omega (arith, some_old, is.before_low i old, old)) ∙ is.before_here i old some_old ∙ sym (tail_kept i old))
            (cases_eq i (length woken));
        none_between = λ i j h after before here.
            ⊎_elim
            (λ (e : i ≡ length woken).
            let old : j < length woken = omega (arith, before, e) in
            is.none_after node j within (omega (arith, after, ap (λ (k : ℕ). (woken_at more k).before) e, ap (λ (w : WokenEdge). w.before) added)) old (sym (tail_kept j old) ∙ here ∙ tail_last i e))
            (λ (n : i ≢ length woken).
            let old : i < length woken = omega (arith, h, long, n) in
            let old_j : j < length woken = omega (arith, before, old) in
            is.none_between i j old (omega (arith, after, ap (λ (w : WokenEdge). w.before) (kept i old))) before (sym (tail_kept j old_j) ∙ here ∙ tail_kept i old))
            (cases_eq i (length woken));
      }

  -- what was woken stays so
  pub woken_more : (k : ℕ) → WasWoken woken k → WasWoken more k
  woken_more k was = (was.0, omega (arith, was.1, long), ap (λ (w : WokenEdge). w.number) (kept was.0 was.1) ∙ was.2)

  -- and the edge is
  pub woken_now : WasWoken more number
  woken_now = (length woken, omega (arith, long), ap (λ (w : WokenEdge). w.number) added)

-- no edge is woken
pub none_chained : (instance : Instance) (last : List ℕ) → instance.steps + 1 ≤ length last → ((node : ℕ) → slice_index last node ≡ 0) → AreChained instance last []
none_chained instance last each zeros =
    record {
      each_node = each;
      are_edges = λ i h. absurd (omega (arith, h));
      heads = λ i h. absurd (omega (arith, h));
      last_low = λ v. omega (arith, zeros v);
      last_here = λ v h some. absurd (omega (arith, zeros v, some));
      none_after = λ v i h after inside here. omega (arith, inside);
      before_low = λ i h. absurd (omega (arith, h));
      before_here = λ i h some. absurd (omega (arith, h));
      none_between = λ i j h after before here. omega (arith, h);
    }

-- lists with one woken edge more
pub listed_more : (s : State) (lists new : Ranges) (node number target : ℕ) → IsListed s lists → node ≤ s.instance.steps → number < 2 * length s.instance.arcs → tail_of s.instance.arcs number ≡ node
    → target ≡ head s.instance.arcs (edge_of (length s.instance.arcs) number)
    → new ≡ record lists { last = set lists.last node (length lists.woken + 1); woken = lists.woken ++ record { before = slice_index lists.last node; head = target; number = number } ∷ [] }
    → IsListed s new × ((k : ℕ) → WasWoken lists.woken k → WasWoken new.woken k) × WasWoken new.woken number
listed_more s lists new node number target is within low own goes same =
    subst (λ (r : Ranges). IsListed s r × ((k : ℕ) → WasWoken lists.woken k → WasWoken r.woken k) × WasWoken r.woken number) (sym same) (
      record {
        few = is.few;
        order = is.order;
        within = is.within;
        sound = is.sound;
        rising = is.rising;
        each_fall = is.each_fall;
        small = is.small;
        chained = chained_more s.instance lists.last lists.woken is.chained node number target within low own goes;
        listed = λ k h apart room.
            ⊎_elim
            (λ (p : IsPlacedAt s.instance lists.first lists.edges (listed_potential s lists) (tail_of s.instance.arcs k) k). inl p)
            (λ (w : WasWoken lists.woken k). inr (woken_more s.instance lists.last lists.woken is.chained node number target within low own goes k w))
            (is.listed k h apart room);
      },
      woken_more s.instance lists.last lists.woken is.chained node number target within low own goes,
      woken_now s.instance lists.last lists.woken is.chained node number target within low own goes,
    )

-- where what each potential fell by was kept, and only edges got room that are woken, the lists still hold
module _ (old new : State) (lists : Ranges) (falls : List ℕ) (is : IsListed old lists) (fits : IsNetwork old.instance) (same : new.instance ≡ old.instance) (keeps : KeepsListed old lists new (record lists { falls = falls }))
    (wakes : (k : ℕ) → k < 2 * length old.instance.arcs → 0 < residual old.instance new.flows (edge_of (length old.instance.arcs) k) → residual old.instance old.flows (edge_of (length old.instance.arcs) k) ≤ 0 → WasWoken lists.woken k) where
  abbrev pub fallen : Ranges
  fallen = record lists { falls = falls }

  steps : new.instance.steps ≡ old.instance.steps
  steps = ap (λ (i : Instance). i.steps) same

  abbrev pub IsSoundOf : Instance → ℕ → Type 0
  IsSoundOf i p = IsSound i (listed_at lists.edges p)

  abbrev pub AllListed : Instance → Type 0
  AllListed i =
      (k : ℕ) → k < 2 * length i.arcs → tail_of i.arcs k ≢ head i.arcs (edge_of (length i.arcs) k) → 0 < residual i new.flows (edge_of (length i.arcs) k)
      → IsPlacedAt i lists.first lists.edges (listed_potential new fallen) (tail_of i.arcs k) k ⊎ WasWoken lists.woken k

  here : AllListed old.instance
  here k h apart room =
      ⊎_elim
      (λ (had : 0 < residual old.instance old.flows (edge_of (length old.instance.arcs) k)).
      ⊎_elim
      (λ (p : IsPlacedAt old.instance lists.first lists.edges (listed_potential old lists) (tail_of old.instance.arcs k) k).
      inl (
        p.0,
        p.1,
        p.2,
        entry_kept old.instance (listed_potential old lists) (listed_potential new fallen) (listed_at lists.edges p.0) k (keeps.same (tail_of old.instance.arcs k) (tail_within old.instance k fits h))
            (keeps.same (head old.instance.arcs (edge_of (length old.instance.arcs) k)) (head_within old.instance k fits h)) p.3,
      ))
      (λ (w : WasWoken lists.woken k). inr w)
      (is.listed k h apart had))
      (λ (none : residual old.instance old.flows (edge_of (length old.instance.arcs) k) ≤ 0). inr (wakes k h room none))
      (cases_lt 0 (residual old.instance old.flows (edge_of (length old.instance.arcs) k)))

  pub listed_after : IsListed new fallen
  listed_after =
      record {
        few = omega (arith, is.few, steps);
        order = λ node h. is.order node (omega (arith, h, steps));
        within = λ node h. is.within node (omega (arith, h, steps));
        sound = λ p h. subst (λ (i : Instance). IsSoundOf i p) (sym same) (is.sound p h);
        rising = λ node h. is.rising node (omega (arith, h, steps));
        each_fall = omega (arith, is.each_fall, keeps.each, steps);
        small = λ node h. omega (arith, keeps.same node (omega (arith, h, steps)), is.small node (omega (arith, h, steps)));
        chained = subst (λ (i : Instance). AreChained i lists.last lists.woken) (sym same) is.chained;
        listed = subst (λ (i : Instance). AllListed i) (sym same) here;
      }

-- a push under potentials that fell
pub listed_pushed : (s : State) (from to amount : ℕ) (potentials falls : List ℕ) (path : List Edge) (lists : Ranges) → IsReady (record s { potentials = potentials }) → IsHigh (record s { potentials = potentials })
    → CanPush (record s { potentials = potentials }) from to path amount → IsListed s lists
    → KeepsListed s lists (record s { potentials = potentials }) (record lists { falls = falls })
    → ((j : ℕ) → j < length path → IsWokenIfShut s lists.woken (opposite (edge_at path j)))
    → IsListed (pushed (record s { potentials = potentials }) from to path amount) (record lists { falls = falls })
listed_pushed s from to amount potentials falls path lists ready high can is keeps wakes =
    let low : State = record s { potentials = potentials } in
    listed_after s (pushed low from to path amount) lists falls is ready.fits.in_range refl (record { each = keeps.each; same = keeps.same })
    (λ k h room none.
    let f : Edge = edge_of (length s.instance.arcs) k in
    let rise = pushed_rises low from to amount path ready high can f room none in
    let own : number_of (length s.instance.arcs) (opposite (edge_at path rise.0)) ≡ k = sym (ap (number_of (length s.instance.arcs)) rise.2) ∙ number_of-edge (length s.instance.arcs) k h in
    subst (WasWoken lists.woken) own (wakes rise.0 rise.1 (subst (λ (g : Edge). residual s.instance s.flows g ≤ 0) rise.2 none) (omega (arith, own, h))))
