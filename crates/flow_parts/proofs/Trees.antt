-- Trees of the nodes that a search found: how one begins, one node more, and the way back once potentials are lowered.
use Rattle.std.proofs.Common.{◌≡◌, ◌≢◌, ℕ, ◌+◌, ◌<◌, ◌≤◌, ◌∙◌, sym, refl, ap, subst, cond, ◌==◌, List, length, arith, ⊎_elim, get_or, set, length-set, get_or-set_same, get_or-set_other, min, slice_index}
use Rattle.std.proofs.lemmas.Bool.{cases_eq, eq-eqb, ne_eqb}
use Rattle.flow_model.specs.declared.edges.Edge.{Edge}
use Rattle.flow_model.specs.declared.edges.Edge.TheVariants.{Inner}
use Rattle.flow_model.specs.Instances.{Instance}
use Rattle.flow_model.specs.Networks.{Flows, tail, head, gain, residual, IsEdge, IsRelaxed}
use Rattle.flow_model.specs.Pushes.{edge_at}
use Rattle.flow_model.proofs.Lists.{set_at}
use Rattle.flow_parts.specs.Searches.{IsParent, IsTree, IsSettled, IsTightParent, at_tail, at_head, lowered}

-- the node where the search begins was found, and no other
pub first_tree : (instance : Instance) (flows : Flows) (potentials : List ℕ) (from far : ℕ) (distances : List ℕ) (parents : List Edge)
    → instance.steps + 1 ≤ length distances → instance.steps + 1 ≤ length parents → from ≤ instance.steps
    → get_or distances from 0 ≡ 0
    → ((node : ℕ) → node ≢ from → node ≤ instance.steps → get_or distances node 0 ≡ far)
    → IsTree instance flows potentials from far distances parents
first_tree instance flows potentials from far distances parents each_distance each_parent from_within start others =
    record {
      each_distance = each_distance;
      each_parent = each_parent;
      from_within = from_within;
      start = start;
      small = λ node h.
          ⊎_elim (λ (e : node ≡ from). omega (arith, start, ap (λ n. get_or distances n 0) e)) (λ (n : node ≢ from). omega (arith, others node n h)) (cases_eq node from);
      found_by = (λ node. node, λ node other within near. absurd (omega (arith, others node other within)));
    }

-- the head of an edge with room was found nearer along it
pub tree_more : (instance : Instance) (flows : Flows) (potentials : List ℕ) (from far : ℕ) (distances : List ℕ) (parents : List Edge) (e : Edge) (near : ℕ) → IsTree instance flows potentials from far distances parents
    → IsEdge instance e → 0 < residual instance flows e → IsRelaxed instance flows (slice_index potentials) e → head instance.arcs e ≤ instance.steps
    → near + (gain instance.arcs e + get_or potentials (head instance.arcs e) 0) ≡ at_tail instance.arcs potentials distances e
    → near < get_or distances (head instance.arcs e) 0
    → IsTree instance flows potentials from far (set distances (head instance.arcs e) near) (set parents (head instance.arcs e) e)
tree_more instance flows potentials from far distances parents e near tree is_edge room valid within_steps value nearer =
    let h : ℕ = head instance.arcs e in
    let t : ℕ = tail instance.arcs e in
    let inside : h < length distances = omega (arith, tree.each_distance, within_steps) in
    let new : List ℕ = set distances h near in
    let apart : t ≢ h = λ same. omega (arith, value, nearer, valid room, ap (λ n. get_or distances n 0) same) in
    let not_first : from ≢ h = λ same. omega (arith, tree.start, nearer, ap (λ n. get_or distances n 0) same) in
    let times : ℕ → ℕ = tree.found_by.0 in
    let later : ℕ → ℕ = λ k. cond (k == h) (times t + 1) (times k) in
    let at_h : later h ≡ times t + 1 = ap (λ b. cond b (times t + 1) (times h)) (eq-eqb h h refl) in
    let at_other : (k : ℕ) → k ≢ h → later k ≡ times k = λ k other. ap (λ b. cond b (times t + 1) (times k)) (ne_eqb k h other) in
    let tail_kept : get_or new t 0 ≡ get_or distances t 0 = (set_at distances h t near inside).1 apart in
    let own : IsParent instance flows potentials new later e h = record {
      is_edge = is_edge;
      room = room;
      leads = refl;
      along = omega (arith, value, tail_kept, (set_at distances h h near inside).0 refl);
      earlier = λ _. omega (arith, at_h, at_other t apart);
    } in
    record {
      each_distance = omega (arith, length-set distances h near, tree.each_distance);
      each_parent = omega (arith, length-set parents h e, tree.each_parent);
      from_within = tree.from_within;
      start = (set_at distances h from near inside).1 not_first ∙ tree.start;
      small = λ node within.
          ⊎_elim
          (λ (same : node ≡ h). omega (arith, (set_at distances h node near inside).0 same, nearer, tree.small h within_steps))
          (λ (other : node ≡ h → ⊥). omega (arith, (set_at distances h node near inside).1 other, tree.small node within))
          (cases_eq node h);
      found_by = (
        later,
        λ node some within close.
            ⊎_elim
            (λ (same : node ≡ h).
            let parent : edge_at (set parents h e) node ≡ e = ap (edge_at (set parents h e)) same ∙ get_or-set_same parents h e (Inner 0) (omega (arith, tree.each_parent, within_steps)) in
            subst (λ (f : Edge). IsParent instance flows potentials new later f node) (sym parent) (subst (λ (n : ℕ). IsParent instance flows potentials new later e n) (sym same) own))
            (λ (other : node ≡ h → ⊥).
            let parent : edge_at (set parents h e) node ≡ edge_at parents node = get_or-set_other parents h node e (Inner 0) other in
            subst (λ (f : Edge). IsParent instance flows potentials new later f node) (sym parent) (kept node other (tree.found_by.1 node some within (omega (arith, close, (set_at distances h node near inside).1 other)))))
            (cases_eq node h),
      );
    }
  where
    kept : (node : ℕ) → node ≢ head instance.arcs e → IsParent instance flows potentials distances tree.found_by.0 (edge_at parents node) node
        → IsParent instance flows potentials (set distances (head instance.arcs e) near)
        (λ k. cond (k == head instance.arcs e) (tree.found_by.0 (tail instance.arcs e) + 1) (tree.found_by.0 k)) (edge_at parents node) node
    kept node other old =
        let h : ℕ = head instance.arcs e in
        let times : ℕ → ℕ = tree.found_by.0 in
        let inside : h < length distances = omega (arith, tree.each_distance, within_steps) in
        let new : List ℕ = set distances h near in
        let f : Edge = edge_at parents node in
        let u : ℕ = tail instance.arcs f in
        let head_kept : get_or new (head instance.arcs f) 0 ≡ get_or distances (head instance.arcs f) 0 = (set_at distances h (head instance.arcs f) near inside).1 (λ same. other (sym old.leads ∙ same)) in
        ⊎_elim
        (λ (same : u ≡ h).
        let moved : get_or new u 0 ≡ near = (set_at distances h u near inside).0 same in
        record {
          is_edge = old.is_edge;
          room = old.room;
          leads = old.leads;
          along = omega (arith, old.along, head_kept, moved, nearer, ap (λ n. get_or distances n 0) same);
          earlier = λ even. absurd (omega (arith, even, old.along, head_kept, moved, nearer, ap (λ n. get_or distances n 0) same));
        })
        (λ (apart : u ≡ h → ⊥).
        let stays : get_or new u 0 ≡ get_or distances u 0 = (set_at distances h u near inside).1 apart in
        record {
          is_edge = old.is_edge;
          room = old.room;
          leads = old.leads;
          along = omega (arith, old.along, head_kept, stays);
          earlier = λ even.
              let before : times u < times node = old.earlier (omega (arith, even, head_kept, stays)) in
              omega (arith, before, ap (λ b. cond b (times (tail instance.arcs e) + 1) (times u)) (ne_eqb u h apart), ap (λ b. cond b (times (tail instance.arcs e) + 1) (times node)) (ne_eqb node h other));
        })
        (cases_eq u h)

-- the edge by which a node within the limit was found is tight under the lowered potentials
pub parent_is_tight : (instance : Instance) (flows : Flows) (potentials distances : List ℕ) (limit : ℕ) (low times : ℕ → ℕ) (e : Edge) (node : ℕ)
    → IsParent instance flows potentials distances times e node → IsRelaxed instance flows (slice_index potentials) e → IsSettled instance flows potentials distances limit e → slice_index distances node ≤ limit
    → low (head instance.arcs e) ≡ lowered potentials distances limit (head instance.arcs e) → low (tail instance.arcs e) ≡ lowered potentials distances limit (tail instance.arcs e)
    → limit ≤ slice_index potentials (head instance.arcs e) + min limit (slice_index distances (head instance.arcs e))
    → limit ≤ slice_index potentials (tail instance.arcs e) + min limit (slice_index distances (tail instance.arcs e))
    → IsTightParent instance flows low distances limit times e node
parent_is_tight instance flows potentials distances limit low times e node parent valid settled near head_low tail_low head_enough tail_enough =
    let least = valid parent.room in
    let same : slice_index distances (head instance.arcs e) ≡ slice_index distances node = ap (slice_index distances) parent.leads in
    let even : at_tail instance.arcs potentials distances e ≡ at_head instance.arcs potentials distances e = omega (arith, parent.along, settled parent.room, same, near) in
    record {
      tight = record { is_edge = parent.is_edge; room = parent.room; tight = omega (arith, even, least, same, near, head_low, tail_low, head_enough, tail_enough) };
      leads = parent.leads;
      near = omega (arith, even, least, same, near);
      earlier = parent.earlier even;
    }
