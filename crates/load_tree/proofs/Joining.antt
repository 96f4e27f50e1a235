-- Two halves as one range: what is added to both, and the greatest of both.
use Rattle.std.proofs.Common.{◌≡◌, ◌≢◌, ℕ, suc, zero, ◌+◌, ◌-◌, ◌*◌, ◌/◌, ◌<◌, ◌≤◌, ◌^◌, ◌∙◌, sym, refl, ap, subst, inl, List, ◌++◌, length, get_or, drop, arith, ⊎_elim, All}
use Rattle.std.specs.Prelude.{min, max}
use Rattle.std.proofs.lemmas.Bool.{cases_lt}
use Rattle.std.proofs.lemmas.List.{get_or-map, get_or_append_left, get_or-append_right, get_or_past, length-map, length-append, length-take, length-drop}
use Rattle.std.proofs.lemmas.List.Elements.{All-from_get_or}
use Rattle.load_tree.specs.declared.tree.Node.{Node}
use Rattle.load_tree.specs.Ranges.{AddsOver, HasRoom, IsGreatest}
use Rattle.load_tree.specs.Trees.{IsMost, IsMostOver, IsTree, loads_of, lower, upper, left, right, root, raised, nodes_of}

-- ---- the greatest load of some range

-- of a range with a step it is reached
pub greatest_from_most : (loads : List ℕ) (from to most : ℕ) → from < to → IsMostOver loads from to most → IsGreatest loads from to most
greatest_from_most loads from to most some is = record {
  reached = ⊎_elim
      (λ (at : (t : ℕ) × (from ≤ t) × (t < to) × (get_or loads t 0 ≡ most)). at)
      (λ (none : most ≡ 0). (from, omega arith, some, omega (arith, is.none_above from (omega arith) some)))
      is.reached;
  none_above = is.none_above;
}

pub most_from_greatest : (loads : List ℕ) (from to most : ℕ) → IsGreatest loads from to most → IsMostOver loads from to most
most_from_greatest loads from to most is = record { none_above = is.none_above; reached = inl is.reached }

-- of a range with no step it is 0
zero_from_most : (loads : List ℕ) (from to most : ℕ) → to ≤ from → IsMostOver loads from to most → most ≡ 0
zero_from_most loads from to most none is =
    ⊎_elim
    (λ (at : (t : ℕ) × (from ≤ t) × (t < to) × (get_or loads t 0 ≡ most)). absurd (omega (arith, at.1, at.2)))
    (λ (nothing : most ≡ 0). nothing)
    is.reached

-- ---- raised loads

pub at_raised : (c : ℕ) (loads : List ℕ) (t : ℕ) → t < length loads → get_or (raised c loads) t 0 ≡ get_or loads t 0 + c
at_raised c loads t low = get_or-map (λ load. load + c) loads t 0 0 low

pub length-raised : (c : ℕ) (loads : List ℕ) → length (raised c loads) ≡ length loads
length-raised c loads = length-map loads (λ load. load + c)

-- all loads are raised
pub raised_more : (c d : ℕ) (loads : List ℕ) → AddsOver (raised c loads) (raised (c + d) loads) 0 (length loads) d
raised_more c d loads = record {
  steps = length-raised (c + d) loads ∙ sym (length-raised c loads);
  covered = λ t _ low. omega (arith, at_raised c loads t low, at_raised (c + d) loads t low);
  before = λ t low. absurd (omega arith);
  after = λ t past. get_or_past (raised (c + d) loads) t 0 (omega (arith, length-raised (c + d) loads)) ∙ sym (get_or_past (raised c loads) t 0 (omega (arith, length-raised c loads)));
}

-- raised loads are raised over the same steps
pub raised_over : (c : ℕ) (old new : List ℕ) (from to amount : ℕ) → to ≤ length old → AddsOver old new from to amount → AddsOver (raised c old) (raised c new) from to amount
raised_over c old new from to amount within adds = record {
  steps = length-raised c new ∙ adds.steps ∙ sym (length-raised c old);
  covered = λ t low high. omega (arith, at_raised c old t (omega arith), at_raised c new t (omega (arith, adds.steps)), adds.covered t low high);
  before = λ t low. ⊎_elim
      (λ (short : t < length old). omega (arith, at_raised c old t short, at_raised c new t (omega (arith, adds.steps)), adds.before t low))
      (λ (past : length old ≤ t). past_both t past)
      (cases_lt t (length old));
  after = λ t high. ⊎_elim
      (λ (short : t < length old). omega (arith, at_raised c old t short, at_raised c new t (omega (arith, adds.steps)), adds.after t high))
      (λ (past : length old ≤ t). past_both t past)
      (cases_lt t (length old));
}
  where
    past_both : (t : ℕ) → length old ≤ t → get_or (raised c new) t 0 ≡ get_or (raised c old) t 0
    past_both t past = get_or_past (raised c new) t 0 (omega (arith, length-raised c new, adds.steps)) ∙ sym (get_or_past (raised c old) t 0 (omega (arith, length-raised c old)))

-- ---- two halves

-- both halves are raised over the steps that they have
pub joined_over : (a b c d : List ℕ) (from to amount : ℕ) → AddsOver a b (min from (length a)) (min to (length a)) amount → AddsOver c d (from - length a) (to - length a) amount → to ≤ length (a ++ c)
    → AddsOver (a ++ c) (b ++ d) from to amount
joined_over a b c d from to amount first second within = record {
  steps = omega (arith, length-append a c, length-append b d, first.steps, second.steps);
  covered = λ t low high. ⊎_elim
      (λ (short : t < length a). omega (arith, in_a t short, in_b t short, first.covered t (omega arith) (omega arith)))
      (λ (far : length a ≤ t). omega (arith, in_c t far, in_d t far, second.covered (t - length a) (omega arith) (omega arith)))
      (cases_lt t (length a));
  before = λ t low. ⊎_elim
      (λ (short : t < length a). omega (arith, in_a t short, in_b t short, first.before t (omega arith)))
      (λ (far : length a ≤ t). omega (arith, in_c t far, in_d t far, second.before (t - length a) (omega arith)))
      (cases_lt t (length a));
  after = λ t high. ⊎_elim
      (λ (short : t < length a). omega (arith, in_a t short, in_b t short, first.after t (omega arith)))
      (λ (far : length a ≤ t). omega (arith, in_c t far, in_d t far, second.after (t - length a) (omega arith)))
      (cases_lt t (length a));
}
  where
    in_a : (t : ℕ) → t < length a → get_or (a ++ c) t 0 ≡ get_or a t 0
    in_a t short = get_or_append_left a c 0 t short

    in_b : (t : ℕ) → t < length a → get_or (b ++ d) t 0 ≡ get_or b t 0
    in_b t short = get_or_append_left b d 0 t (omega (arith, first.steps))

    in_c : (t : ℕ) → length a ≤ t → get_or (a ++ c) t 0 ≡ get_or c (t - length a) 0
    in_c t far = get_or-append_right a c (length a) t 0 refl far

    in_d : (t : ℕ) → length a ≤ t → get_or (b ++ d) t 0 ≡ get_or d (t - length a) 0
    in_d t far = get_or-append_right b d (length a) t 0 first.steps far

-- the greatest of both halves, raised
pub joined_most : (a c : List ℕ) (extra from to most other : ℕ) → from < to → to ≤ length (a ++ c) → IsMostOver a (min from (length a)) (min to (length a)) most → IsMostOver c (from - length a) (to - length a) other
    → IsGreatest (raised extra (a ++ c)) from to (extra + max most other)
joined_most a c extra from to most other some within first second = record {
  reached = ⊎_elim
      (λ (in_first : min from (length a) < min to (length a)).
      ⊎_elim
      (λ (in_second : from - length a < to - length a).
      ⊎_elim
      (λ (less : most < other). pick_second (greatest_from_most c (from - length a) (to - length a) other in_second second) (omega arith))
      (λ (enough : other ≤ most). pick_first (greatest_from_most a (min from (length a)) (min to (length a)) most in_first first) enough)
      (cases_lt most other))
      (λ (out : to - length a ≤ from - length a).
      pick_first (greatest_from_most a (min from (length a)) (min to (length a)) most in_first first) (omega (arith, zero_from_most c (from - length a) (to - length a) other out second)))
      (cases_lt (from - length a) (to - length a)))
      (λ (out : min to (length a) ≤ min from (length a)).
      pick_second (greatest_from_most c (from - length a) (to - length a) other (omega arith) second) (omega (arith, zero_from_most a (min from (length a)) (min to (length a)) most out first)))
      (cases_lt (min from (length a)) (min to (length a)));
  none_above = λ t low high. ⊎_elim
      (λ (short : t < length a). omega (arith, in_all t high, get_or_append_left a c 0 t short, first.none_above t (omega arith) (omega arith)))
      (λ (far : length a ≤ t). omega (arith, in_all t high, get_or-append_right a c (length a) t 0 refl far, second.none_above (t - length a) (omega arith) (omega arith)))
      (cases_lt t (length a));
}
  where
    in_all : (t : ℕ) → t < to → get_or (raised extra (a ++ c)) t 0 ≡ get_or (a ++ c) t 0 + extra
    in_all t high = at_raised extra (a ++ c) t (omega arith)

    pick_first : IsGreatest a (min from (length a)) (min to (length a)) most → other ≤ most → (t : ℕ) × (from ≤ t) × (t < to) × (get_or (raised extra (a ++ c)) t 0 ≡ extra + max most other)
    pick_first g enough =
        let r = g.reached in
        let low : min from (length a) ≤ r.0 = r.1 in
        let high : r.0 < min to (length a) = r.2 in
        (r.0, omega arith, omega arith, omega (arith, in_all r.0 (omega arith), get_or_append_left a c 0 r.0 (omega arith), r.3))

    pick_second : IsGreatest c (from - length a) (to - length a) other → most ≤ other → (t : ℕ) × (from ≤ t) × (t < to) × (get_or (raised extra (a ++ c)) t 0 ≡ extra + max most other)
    pick_second g enough =
        let r = g.reached in
        let low : from - length a ≤ r.0 = r.1 in
        let high : r.0 < to - length a = r.2 in
        let back : length a + r.0 - length a ≡ r.0 = omega arith in (
          length a + r.0,
          omega arith,
          omega arith,
          omega (
            arith,
            in_all (length a + r.0) (omega arith),
            get_or-append_right a c (length a) (length a + r.0) 0 refl (omega arith),
            ap (λ k. get_or c k 0) back,
            r.3,
          ),
        )

-- ---- trees by their height

-- a tree of some height, by its halves
pub record IsFork (height : ℕ) (nodes : List Node) (loads : List ℕ) : Type 0 where
  pub nodes_are : length nodes ≡ 1 + 2 * nodes_of (height - 1)
  pub most : IsMost (loads_of height nodes loads) (root nodes).most
  pub first : IsTree (height - 1) (left nodes) (lower loads)
  pub second : IsTree (height - 1) (right nodes) (upper loads)

pub loads_of-leaf : (height : ℕ) (nodes : List Node) (loads : List ℕ) → height ≡ 0 → loads_of height nodes loads ≡ raised (root nodes).added loads
loads_of-leaf zero nodes loads flat = refl
loads_of-leaf (suc k) nodes loads flat = absurd (omega arith)

pub loads_of-fork : (height : ℕ) (nodes : List Node) (loads : List ℕ) → height ≢ 0
    → loads_of height nodes loads ≡ raised (root nodes).added (loads_of (height - 1) (left nodes) (lower loads) ++ loads_of (height - 1) (right nodes) (upper loads))
loads_of-fork zero nodes loads high = absurd (high refl)
loads_of-fork (suc k) nodes loads high =
    let e : k ≡ suc k - 1 = omega arith in ap (λ j. raised (root nodes).added (loads_of j (left nodes) (lower loads) ++ loads_of j (right nodes) (upper loads))) e

pub fork_from_tree : (height : ℕ) (nodes : List Node) (loads : List ℕ) → height ≢ 0 → IsTree height nodes loads → IsFork height nodes loads
fork_from_tree zero nodes loads high tree = absurd (high refl)
fork_from_tree (suc k) nodes loads high tree =
    let e : k ≡ suc k - 1 = omega arith in
    record {
      nodes_are = tree.0 ∙ ap (λ j. 1 + 2 * nodes_of j) e;
      most = tree.1;
      first = subst (λ j. IsTree j (left nodes) (lower loads)) e tree.2;
      second = subst (λ j. IsTree j (right nodes) (upper loads)) e tree.3;
    }

pub tree_from_fork : (height : ℕ) (nodes : List Node) (loads : List ℕ) → height ≢ 0 → IsFork height nodes loads → IsTree height nodes loads
tree_from_fork zero nodes loads high fork = absurd (high refl)
tree_from_fork (suc k) nodes loads high fork =
    let e : suc k - 1 ≡ k = omega arith in
    (fork.nodes_are ∙ ap (λ j. 1 + 2 * nodes_of j) e, fork.most, subst (λ j. IsTree j (left nodes) (lower loads)) e fork.first, subst (λ j. IsTree j (right nodes) (upper loads)) e fork.second)

pub tree_from_leaf : (height : ℕ) (nodes : List Node) (loads : List ℕ) → height ≡ 0 → length nodes ≡ 1 → IsMost (loads_of height nodes loads) (root nodes).most → IsTree height nodes loads
tree_from_leaf zero nodes loads flat one most = (one, most)
tree_from_leaf (suc k) nodes loads flat one most = absurd (omega arith)

-- each tree has a first node, with its greatest load
pub length-tree : (height : ℕ) (nodes : List Node) (loads : List ℕ) → IsTree height nodes loads → length nodes ≡ nodes_of height
length-tree zero nodes loads tree = tree.0
length-tree (suc k) nodes loads tree = tree.0

pub nodes_of-some : (height : ℕ) → 0 < nodes_of height
nodes_of-some zero = omega arith
nodes_of-some (suc k) = omega arith

pub most-tree : (height : ℕ) (nodes : List Node) (loads : List ℕ) → IsTree height nodes loads → IsMost (loads_of height nodes loads) (root nodes).most
most-tree zero nodes loads tree = tree.1
most-tree (suc k) nodes loads tree = tree.1

pub length-lower : (loads : List ℕ) → length (lower loads) ≡ length loads / 2
length-lower loads = omega (arith, length-take (length loads / 2) loads)

pub length-upper : (loads : List ℕ) → length (upper loads) ≡ length loads - length loads / 2
length-upper loads = omega (arith, length-take (length loads - length loads / 2) (drop (length loads / 2) loads), length-drop (length loads / 2) loads)

pub length-loads_of : (height : ℕ) (nodes : List Node) (loads : List ℕ) → length (loads_of height nodes loads) ≡ length loads
length-loads_of zero nodes loads = length-raised (root nodes).added loads
length-loads_of (suc k) nodes loads =
    length-raised (root nodes).added (loads_of k (left nodes) (lower loads) ++ loads_of k (right nodes) (upper loads))
    ∙ omega (
      arith,
      length-append (loads_of k (left nodes) (lower loads)) (loads_of k (right nodes) (upper loads)),
      length-loads_of k (left nodes) (lower loads),
      length-loads_of k (right nodes) (upper loads),
      length-lower loads,
      length-upper loads,
    )

-- ---- the halves of a tree, as a call on one of them needs them

module _ (height : ℕ) (nodes : List Node) (loads : List ℕ) (high : height ≢ 0) where
  abbrev pub low_loads : List ℕ
  low_loads = loads_of (height - 1) (left nodes) (lower loads)

  abbrev pub high_loads : List ℕ
  high_loads = loads_of (height - 1) (right nodes) (upper loads)

  -- the loads of the lower half stand first
  at_lower : (t : ℕ) → t < length loads / 2 → get_or (loads_of height nodes loads) t 0 ≡ get_or low_loads t 0 + (root nodes).added
  at_lower t short =
      ap (λ ls. get_or ls t 0) (loads_of-fork height nodes loads high)
      ∙ at_raised (root nodes).added (low_loads ++ high_loads) t
      (omega (arith, length-append low_loads high_loads, length-loads_of (height - 1) (left nodes) (lower loads), length-lower loads))
      ∙ ap (λ n. n + (root nodes).added) (get_or_append_left low_loads high_loads 0 t (omega (arith, length-loads_of (height - 1) (left nodes) (lower loads), length-lower loads)))

  -- and those of the upper half after them
  at_upper : (t : ℕ) → t < length loads - length loads / 2 → get_or (loads_of height nodes loads) (length loads / 2 + t) 0 ≡ get_or high_loads t 0 + (root nodes).added
  at_upper t short =
      let first : length low_loads ≡ length loads / 2 = length-loads_of (height - 1) (left nodes) (lower loads) ∙ length-lower loads in
      let back : length loads / 2 + t - length loads / 2 ≡ t = omega arith in
      ap (λ ls. get_or ls (length loads / 2 + t) 0) (loads_of-fork height nodes loads high)
      ∙ at_raised (root nodes).added (low_loads ++ high_loads) (length loads / 2 + t)
      (omega (arith, length-append low_loads high_loads, first, length-loads_of (height - 1) (right nodes) (upper loads), length-upper loads))
      ∙ ap (λ n. n + (root nodes).added) (get_or-append_right low_loads high_loads (length loads / 2) (length loads / 2 + t) 0 first (omega arith) ∙ ap (λ k. get_or high_loads k 0) back)

  pub small_lower : All (λ load. load ≤ 2 ^ 100) (loads_of height nodes loads) → All (λ load. load ≤ 2 ^ 100) low_loads
  small_lower small = All-from_get_or (λ load. load ≤ 2 ^ 100) low_loads 0
      (λ t short.
      let inside : t < length loads / 2 = omega (arith, length-loads_of (height - 1) (left nodes) (lower loads), length-lower loads) in
      omega (arith, small t 0 (omega (arith, length-loads_of height nodes loads)), at_lower t inside))

  pub small_upper : All (λ load. load ≤ 2 ^ 100) (loads_of height nodes loads) → All (λ load. load ≤ 2 ^ 100) high_loads
  small_upper small = All-from_get_or (λ load. load ≤ 2 ^ 100) high_loads 0
      (λ t short.
      let inside : t < length loads - length loads / 2 = omega (arith, length-loads_of (height - 1) (right nodes) (upper loads), length-upper loads) in
      omega (arith, small (length loads / 2 + t) 0 (omega (arith, length-loads_of height nodes loads)), at_upper t inside))

  pub room_lower : (from to amount : ℕ) → HasRoom (loads_of height nodes loads) from to amount → HasRoom low_loads (min from (length loads / 2)) (min to (length loads / 2)) amount
  room_lower from to amount room t low short = omega (arith, room t (omega arith) (omega arith), at_lower t (omega arith))

  pub room_upper : (from to amount : ℕ) → to ≤ length loads → HasRoom (loads_of height nodes loads) from to amount → HasRoom high_loads (from - length loads / 2) (to - length loads / 2) amount
  room_upper from to amount within room t low short = omega (arith, room (length loads / 2 + t) (omega arith) (omega arith), at_upper t (omega arith))

  -- the greatest of both halves
  pub fork_most : (from to most other : ℕ) → from < to → to ≤ length loads → IsMostOver low_loads (min from (length loads / 2)) (min to (length loads / 2)) most → IsMostOver high_loads (from - length loads / 2) (to - length loads / 2) other
      → IsGreatest (loads_of height nodes loads) from to ((root nodes).added + max most other)
  fork_most from to most other some within first second =
      let half : length loads / 2 ≡ length low_loads = sym (length-loads_of (height - 1) (left nodes) (lower loads) ∙ length-lower loads) in
      subst (λ ls. IsGreatest ls from to ((root nodes).added + max most other)) (sym (loads_of-fork height nodes loads high))
      (joined_most low_loads high_loads (root nodes).added from to most other some
      (omega (arith, length-append low_loads high_loads, half, length-loads_of (height - 1) (right nodes) (upper loads), length-upper loads))
      (subst (λ n. IsMostOver low_loads (min from n) (min to n) most) half first)
      (subst (λ n. IsMostOver high_loads (from - n) (to - n) other) half second))

  -- the same, with the ends that a call has
  pub fork_greatest : (from to most other low_from low_to high_from high_to both : ℕ) → from < to → to ≤ length loads
      → low_from ≡ min from (length loads / 2) → low_to ≡ min to (length loads / 2) → high_from ≡ from - length loads / 2 → high_to ≡ to - length loads / 2 → both ≡ max most other
      → IsMostOver low_loads low_from low_to most → IsMostOver high_loads high_from high_to other
      → IsGreatest (loads_of height nodes loads) from to ((root nodes).added + both)
  fork_greatest from to most other low_from low_to high_from high_to both some within a b c d e first second =
      subst (λ n. IsGreatest (loads_of height nodes loads) from to ((root nodes).added + n)) (sym e)
      (fork_most from to most other some within
      (subst (λ n. IsMostOver low_loads (min from (length loads / 2)) n most) b (subst (λ n. IsMostOver low_loads n low_to most) a first))
      (subst (λ n. IsMostOver high_loads (from - length loads / 2) n other) d (subst (λ n. IsMostOver high_loads n high_to other) c second)))

-- ---- a tree of one node, and a whole range

pub leaf_greatest : (height : ℕ) (nodes : List Node) (loads : List ℕ) (from to most : ℕ) → height ≡ 0 → from < to → to ≤ length loads → IsMostOver loads from to most
    → IsGreatest (loads_of height nodes loads) from to ((root nodes).added + most)
leaf_greatest height nodes loads from to most flat some within is =
    let g : IsGreatest loads from to most = greatest_from_most loads from to most some is in
    let at : (t : ℕ) → t < to → get_or (loads_of height nodes loads) t 0 ≡ get_or loads t 0 + (root nodes).added =
    λ t high. ap (λ ls. get_or ls t 0) (loads_of-leaf height nodes loads flat) ∙ at_raised (root nodes).added loads t (omega arith) in
    record {
      reached = (g.reached.0, g.reached.1, g.reached.2, omega (arith, at g.reached.0 g.reached.2, g.reached.3));
      none_above = λ t low high. omega (arith, at t high, g.none_above t low high);
    }

pub root_most : (height : ℕ) (nodes : List Node) (loads : List ℕ) (from to : ℕ) → IsTree height nodes loads → from ≡ 0 → to ≡ length loads → IsMostOver (loads_of height nodes loads) from to (root nodes).most
root_most height nodes loads from to tree first last =
    subst (λ n. IsMostOver (loads_of height nodes loads) n to (root nodes).most) (sym first)
    (subst (λ n. IsMostOver (loads_of height nodes loads) 0 n (root nodes).most) (length-loads_of height nodes loads ∙ sym last) (most-tree height nodes loads tree))

-- the greatest of small loads is small
pub small_greatest : (loads : List ℕ) (from to most : ℕ) → All (λ load. load ≤ 2 ^ 100) loads → to ≤ length loads → IsGreatest loads from to most → most ≤ 2 ^ 100
small_greatest loads from to most small within g = let r = g.reached in let high : r.0 < to = r.2 in omega (arith, r.3, small r.0 0 (omega arith))

-- what has room in a tree of one node has room in its loads
pub leaf_room : (height : ℕ) (nodes : List Node) (loads : List ℕ) → height ≡ 0 → (from to amount : ℕ) → to ≤ length loads → HasRoom (loads_of height nodes loads) from to amount → HasRoom loads from to amount
leaf_room height nodes loads flat from to amount within room t low high =
    omega (arith, room t low high, ap (λ ls. get_or ls t 0) (loads_of-leaf height nodes loads flat), at_raised (root nodes).added loads t (omega arith))
