-- The lists of outer edges: one edge more.
use Rattle.std.proofs.Common.{◌≡◌, ◌≢◌, ℕ, ◌+◌, ◌-◌, ◌*◌, ◌<◌, ◌≤◌, ◌∙◌, sym, ap, subst, cond, length, arith, ⊎_elim, get_or, length-set}
use Rattle.std.proofs.lemmas.Bool.{cases_eq, cases_lt, lt-ltb, le-ltb}
use Rattle.flow_model.specs.declared.edges.Edge.{Edge}
use Rattle.flow_model.specs.declared.edges.Edge.TheVariants.{Inner, InnerBack, Outer, OuterBack}
use Rattle.flow_model.specs.Instances.{Instance, IsInstance, arc_at, no_arc}
use Rattle.flow_model.specs.Networks.{tail, head, IsEdge}
use Rattle.flow_model.proofs.Lists.{set_at}
use Rattle.flow_parts.specs.OuterEdges.{edge_of, tail_of, Lists, AreListed, one_more}

-- each edge leads from a node to another
abbrev pub HasEnds : Instance → Type 0
HasEnds instance = (e : Edge) → IsEdge instance e → (tail instance.arcs e ≤ instance.steps) × (head instance.arcs e ≤ instance.steps)

-- as arcs do
pub ends_of_arcs : (instance : Instance) → ((i : ℕ) → i < length instance.arcs → ((arc_at instance.arcs i).start ≤ (arc_at instance.arcs i).end) × ((arc_at instance.arcs i).end ≤ instance.steps)) → HasEnds instance
ends_of_arcs instance arcs (Inner t) is_edge = (omega arith, omega arith)
ends_of_arcs instance arcs (InnerBack t) is_edge = (omega arith, omega arith)
ends_of_arcs instance arcs (Outer i) is_edge = let a = arcs i is_edge in (omega (arith, a.0, a.1), a.1)
ends_of_arcs instance arcs (OuterBack i) is_edge = let a = arcs i is_edge in (a.1, omega (arith, a.0, a.1))

pub ends_within : (instance : Instance) → IsInstance instance → HasEnds instance
ends_within instance fits = ends_of_arcs instance (λ i h. let a = fits.arcs_fit i no_arc h in (omega (arith, a.order), a.within))

pub edge_of-arc : (arcs i : ℕ) → i < arcs → edge_of arcs i ≡ Outer i
edge_of-arc arcs i low = ap (λ b. cond b (Outer i) (OuterBack (i - arcs))) (lt-ltb i arcs low)

pub edge_of-back : (arcs i : ℕ) → edge_of arcs (arcs + i) ≡ OuterBack i
edge_of-back arcs i =
    let same : (arcs + i) - arcs ≡ i = omega arith in
    ap (λ b. cond b (Outer (arcs + i)) (OuterBack ((arcs + i) - arcs))) (le-ltb (arcs + i) arcs (omega arith)) ∙ ap OuterBack same

-- no edge is listed
pub none_listed : (instance : Instance) (lists : Lists) → length lists.first ≡ instance.steps + 1 → ((node : ℕ) → get_or lists.first node 0 ≡ 0)
    → AreListed instance lists 0
none_listed instance lists each_node zeros =
    record {
      each_node = each_node;
      each_edge = omega arith;
      first_low = λ v. omega (arith, zeros v);
      first_here = λ v within some. absurd (omega (arith, zeros v, some));
      none_before = λ v k within low high. absurd (omega arith);
      next_low = λ k low. absurd (omega arith);
      next_here = λ k low some. absurd (omega arith);
      none_between = λ k j low high before. absurd (omega arith);
    }

-- the next edge at the beginning of its list
pub one_more_listed : (instance : Instance) (lists : Lists) (count node : ℕ) → AreListed instance lists count → count < length lists.next → node ≤ instance.steps → tail_of instance.arcs count ≡ node
    → AreListed instance (one_more lists count node) (count + 1)
one_more_listed instance lists count node listed room within own =
    record {
      each_node = length-set lists.first node (count + 1) ∙ listed.each_node;
      each_edge = omega (arith, length-set lists.next count (get_or lists.first node 0));
      first_low = λ v.
          ⊎_elim (λ (e : v ≡ node). omega (arith, (first_at v).0 e)) (λ (n : v ≡ node → ⊥). omega (arith, (first_at v).1 n, listed.first_low v)) (cases_eq v node);
      first_here = λ v h some.
          ⊎_elim
          (λ (e : v ≡ node). let at : get_or (one_more lists count node).first v 0 - 1 ≡ count = omega (arith, (first_at v).0 e) in ap (tail_of instance.arcs) at ∙ own ∙ sym e)
          (λ (n : v ≡ node → ⊥). ap (λ k. tail_of instance.arcs (k - 1)) ((first_at v).1 n) ∙ listed.first_here v h (omega (arith, (first_at v).1 n, some))) (cases_eq v node);
      none_before = λ v k h low high.
          ⊎_elim (λ (e : v ≡ node). absurd (omega (arith, (first_at v).0 e)))
          (λ (n : v ≡ node → ⊥).
          ⊎_elim (λ (e : k ≡ count). λ same. n (sym same ∙ ap (tail_of instance.arcs) e ∙ own)) (λ (m : k ≡ count → ⊥). listed.none_before v k h (omega (arith, (first_at v).1 n, low)) (omega arith)) (cases_eq k count))
          (cases_eq v node);
      next_low = λ k h.
          ⊎_elim (λ (e : k ≡ count). omega (arith, (next_at k).0 e, listed.first_low node)) (λ (n : k ≡ count → ⊥). omega (arith, (next_at k).1 n, listed.next_low k (omega arith))) (cases_eq k count);
      next_here = λ k h some.
          ⊎_elim
          (λ (e : k ≡ count).
          ap (λ j. tail_of instance.arcs (j - 1)) ((next_at k).0 e) ∙ listed.first_here node within (omega (arith, (next_at k).0 e, some)) ∙ sym own ∙ ap (tail_of instance.arcs) (sym e))
          (λ (n : k ≡ count → ⊥). ap (λ j. tail_of instance.arcs (j - 1)) ((next_at k).1 n) ∙ listed.next_here k (omega arith) (omega (arith, (next_at k).1 n, some))) (cases_eq k count);
      none_between = λ k j h low high.
          ⊎_elim
          (λ (e : k ≡ count). λ same. listed.none_before node j within (omega (arith, (next_at k).0 e, low)) (omega arith) (same ∙ ap (tail_of instance.arcs) e ∙ own))
          (λ (n : k ≡ count → ⊥). listed.none_between k j (omega arith) (omega (arith, (next_at k).1 n, low)) high) (cases_eq k count);
    }
  where
    first_at : (v : ℕ) → (v ≡ node → get_or (one_more lists count node).first v 0 ≡ count + 1) × (v ≢ node → get_or (one_more lists count node).first v 0 ≡ get_or lists.first v 0)
    first_at v = set_at lists.first node v (count + 1) (omega (arith, listed.each_node))

    next_at : (k : ℕ) → (k ≡ count → get_or (one_more lists count node).next k 0 ≡ get_or lists.first node 0) × (k ≢ count → get_or (one_more lists count node).next k 0 ≡ get_or lists.next k 0)
    next_at k = set_at lists.next count k (get_or lists.first node 0) room

-- what is numbered is an edge
pub is_edge_of : (instance : Instance) (k : ℕ) → k < 2 * length instance.arcs → IsEdge instance (edge_of (length instance.arcs) k)
is_edge_of instance k within =
    let arcs : ℕ = length instance.arcs in
    ⊎_elim
    (λ (low : k < arcs). subst (λ (e : Edge). IsEdge instance e) (sym (edge_of-arc arcs k low)) low)
    (λ (high : arcs ≤ k).
    let at : arcs + (k - arcs) ≡ k = omega arith in
    let inside : k - arcs < arcs = omega arith in
    subst (λ (n : ℕ). IsEdge instance (edge_of arcs n)) at (subst (λ (e : Edge). IsEdge instance e) (sym (edge_of-back arcs (k - arcs))) inside))
    (cases_lt k arcs)

-- what holds of the numbered edges and of the inner edges out of a node holds of all edges out of it
pub each_edge_from : (instance : Instance) (node : ℕ) (P : Edge → Type 0)
    → ((k : ℕ) → k < 2 * length instance.arcs → tail_of instance.arcs k ≡ node → P (edge_of (length instance.arcs) k))
    → (node < instance.steps → P (Inner node))
    → (0 < node → P (InnerBack (node - 1)))
    → (e : Edge) → IsEdge instance e → tail instance.arcs e ≡ node → P e
each_edge_from instance node P outer on back (Inner t) is at = subst (λ (k : ℕ). P (Inner k)) (sym at) (on (omega (arith, is, at)))
each_edge_from instance node P outer on back (InnerBack t) is at =
    let before : node - 1 ≡ t = omega (arith, at) in
    subst (λ (k : ℕ). P (InnerBack k)) before (back (omega (arith, at)))
each_edge_from instance node P outer on back (Outer i) is at =
    subst (λ (e : Edge). P e) (edge_of-arc (length instance.arcs) i is) (outer i (omega arith) (ap (tail instance.arcs) (edge_of-arc (length instance.arcs) i is) ∙ at))
each_edge_from instance node P outer on back (OuterBack i) is at =
    subst (λ (e : Edge). P e) (edge_of-back (length instance.arcs) i)
    (outer (length instance.arcs + i) (omega arith) (ap (tail instance.arcs) (edge_of-back (length instance.arcs) i) ∙ at))
