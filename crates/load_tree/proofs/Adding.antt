-- What an addition makes of a tree: to a whole range, and to one node with its loads.
use Rattle.std.proofs.Common.{◌≡◌, ℕ, suc, zero, ◌+◌, ◌-◌, ◌/◌, ◌<◌, ◌≤◌, ◌^◌, ◌∙◌, sym, refl, ap, subst, List, ◌++◌, length, get_or, set, take, drop, arith, ⊎_elim, All}
use Rattle.std.proofs.lemmas.Bool.{cases_lt}
use Rattle.std.proofs.lemmas.List.{length-set, get_or-set_same, drop-set-lt}
use Rattle.std.proofs.lemmas.List.Elements.{All-from_get_or}
use Rattle.load_tree.specs.declared.tree.Node.{Node}
use Rattle.load_tree.specs.Ranges.{AddsOver, HasRoom, IsGreatest}
use Rattle.load_tree.specs.Trees.{IsMost, IsMostOver, IsTree, loads_of, lower, upper, left, right, root, raised, nodes_of}
use Rattle.load_tree.proofs.Joining

-- ---- what is small stays small

pub small_after : (old new : List ℕ) (from to amount : ℕ) → All (λ load. load ≤ 2 ^ 100) old → HasRoom old from to amount → AddsOver old new from to amount → All (λ load. load ≤ 2 ^ 100) new
small_after old new from to amount small room adds = All-from_get_or (λ load. load ≤ 2 ^ 100) new 0
    (λ t short.
    ⊎_elim
    (λ (early : t < from). omega (arith, adds.before t early, small t 0 (omega (arith, adds.steps))))
    (λ (late : from ≤ t).
    ⊎_elim
    (λ (inside : t < to). omega (arith, adds.covered t late inside, room t late inside))
    (λ (past : to ≤ t). omega (arith, adds.after t past, small t 0 (omega (arith, adds.steps))))
    (cases_lt t to))
    (cases_lt t from))

-- ---- another first node

-- what is stored below the first node
abbrev inner : ℕ → List Node → List ℕ → List ℕ
inner zero nodes loads = loads
inner (suc k) nodes loads = loads_of k (left nodes) (lower loads) ++ loads_of k (right nodes) (upper loads)

loads_of-raised : (height : ℕ) (nodes : List Node) (loads : List ℕ) → loads_of height nodes loads ≡ raised (root nodes).added (inner height nodes loads)
loads_of-raised zero nodes loads = refl
loads_of-raised (suc k) nodes loads = refl

length-inner : (height : ℕ) (nodes : List Node) (loads : List ℕ) → length (inner height nodes loads) ≡ length loads
length-inner height nodes loads = sym (Joining.length-raised (root nodes).added (inner height nodes loads)) ∙ ap length (sym (loads_of-raised height nodes loads)) ∙ Joining.length-loads_of height nodes loads

-- what was added to the whole is in each load
pub added-le : (height : ℕ) (nodes : List Node) (loads : List ℕ) (t : ℕ) → t < length loads → (root nodes).added ≤ get_or (loads_of height nodes loads) t 0
added-le height nodes loads t short =
    omega (arith, ap (λ ls. get_or ls t 0) (loads_of-raised height nodes loads), Joining.at_raised (root nodes).added (inner height nodes loads) t (omega (arith, length-inner height nodes loads)))

module _ (nodes : List Node) (y : Node) where
  left-set : left (set nodes 0 y) ≡ left nodes
  left-set =
      ap (λ n. take (1 + n / 2 - 1) (drop 1 (set nodes 0 y))) (length-set nodes 0 y)
      ∙ ap (take (1 + length nodes / 2 - 1)) (drop-set-lt 1 nodes 0 y (omega arith))

  right-set : right (set nodes 0 y) ≡ right nodes
  right-set =
      ap (λ n. take (n - (1 + n / 2)) (drop (1 + n / 2) (set nodes 0 y))) (length-set nodes 0 y)
      ∙ ap (take (length nodes - (1 + length nodes / 2))) (drop-set-lt (1 + length nodes / 2) nodes 0 y (omega arith))

  inner-set : (height : ℕ) (loads : List ℕ) → inner height (set nodes 0 y) loads ≡ inner height nodes loads
  inner-set zero loads = refl
  inner-set (suc k) loads = ap (λ ns. loads_of k ns (lower loads) ++ loads_of k (right (set nodes 0 y)) (upper loads)) left-set ∙ ap (λ ns. loads_of k (left nodes) (lower loads) ++ loads_of k ns (upper loads)) right-set

  module _ (some : 0 < length nodes) where
    root-set : root (set nodes 0 y) ≡ y
    root-set = get_or-set_same nodes 0 y (record { added = 0; most = 0 }) some

    loads_of-set : (height : ℕ) (loads : List ℕ) → loads_of height (set nodes 0 y) loads ≡ raised y.added (inner height nodes loads)
    loads_of-set height loads =
        loads_of-raised height (set nodes 0 y) loads ∙ ap (λ (x : Node). raised x.added (inner height (set nodes 0 y) loads)) root-set ∙ ap (raised y.added) (inner-set height loads)

    tree-set : (height : ℕ) (loads : List ℕ) → IsTree height nodes loads → IsMost (loads_of height (set nodes 0 y) loads) y.most → IsTree height (set nodes 0 y) loads
    tree-set zero loads tree most =
        (length-set nodes 0 y ∙ tree.0, subst (λ (x : Node). IsMost (loads_of 0 (set nodes 0 y) loads) x.most) (sym root-set) most)
    tree-set (suc k) loads tree most = (
      length-set nodes 0 y ∙ tree.0,
      subst (λ (x : Node). IsMost (loads_of (suc k) (set nodes 0 y) loads) x.most) (sym root-set) most,
      subst (λ ns. IsTree k ns (lower loads)) (sym left-set) tree.2,
      subst (λ ns. IsTree k ns (upper loads)) (sym right-set) tree.3,
    )

-- ---- the whole range

-- the greatest load rises by what is added to all
most_raised : (old new : List ℕ) (most amount : ℕ) → 0 < length old → IsMost old most → AddsOver old new 0 (length old) amount → IsMost new (most + amount)
most_raised old new most amount some is adds =
    let g : IsGreatest old 0 (length old) most = Joining.greatest_from_most old 0 (length old) most some is in
    let r = g.reached in
    let inside : r.0 < length old = r.2 in
    Joining.most_from_greatest new 0 (length new) (most + amount) (record {
      reached = (r.0, omega arith, omega (arith, adds.steps), omega (arith, adds.covered r.0 (omega arith) inside, r.3));
      none_above = λ t low high. omega (arith, adds.covered t low (omega (arith, adds.steps)), g.none_above t low (omega (arith, adds.steps)));
    })

module _ (height : ℕ) (nodes : List Node) (loads : List ℕ) (tree : IsTree height nodes loads) (amount : ℕ) where
  abbrev pub whole : List Node
  whole = set nodes 0 (record { added = (root nodes).added + amount; most = (root nodes).most + amount })

  some_nodes : 0 < length nodes
  some_nodes = omega (arith, Joining.length-tree height nodes loads tree, Joining.nodes_of-some height)

  adds_all : AddsOver (loads_of height nodes loads) (loads_of height whole loads) 0 (length (loads_of height nodes loads)) amount
  adds_all =
      let inside : List ℕ = inner height nodes loads in
      subst (λ n. AddsOver (loads_of height nodes loads) (loads_of height whole loads) 0 n amount) (length-inner height nodes loads ∙ sym (Joining.length-loads_of height nodes loads))
      (subst (λ ls. AddsOver (loads_of height nodes loads) ls 0 (length inside) amount) (sym (loads_of-set nodes (record { added = (root nodes).added + amount; most = (root nodes).most + amount }) some_nodes height loads))
      (subst (λ ls. AddsOver ls (raised ((root nodes).added + amount) inside) 0 (length inside) amount) (sym (loads_of-raised height nodes loads)) (Joining.raised_more (root nodes).added amount inside)))

  pub whole_added : (from to : ℕ) → from ≡ 0 → to ≡ length loads → AddsOver (loads_of height nodes loads) (loads_of height whole loads) from to amount
  whole_added from to first last =
      subst (λ n. AddsOver (loads_of height nodes loads) (loads_of height whole loads) n to amount) (sym first)
      (subst (λ n. AddsOver (loads_of height nodes loads) (loads_of height whole loads) 0 n amount) (Joining.length-loads_of height nodes loads ∙ sym last) adds_all)

  pub whole_tree : 0 < length loads → IsTree height whole loads
  whole_tree some =
      tree-set nodes (record { added = (root nodes).added + amount; most = (root nodes).most + amount }) some_nodes height loads tree
      (most_raised (loads_of height nodes loads) (loads_of height whole loads) (root nodes).most amount (omega (arith, Joining.length-loads_of height nodes loads)) (Joining.most-tree height nodes loads tree) adds_all)

  pub whole_most : (root whole).most ≡ (root nodes).most + amount
  whole_most = ap (λ (x : Node). x.most) (root-set nodes (record { added = (root nodes).added + amount; most = (root nodes).most + amount }) some_nodes)

-- ---- one node

module _ (height : ℕ) (nodes : List Node) (loads new : List ℕ) (tree : IsTree height nodes loads) (flat : height ≡ 0) (from to amount : ℕ) (within : to ≤ length loads) (adds : AddsOver loads new from to amount) where
  module _ (most : ℕ) (is : IsMostOver new 0 (length new) most) (some : 0 < length loads) where
    abbrev pub leaf : List Node
    leaf = set nodes 0 (record { added = (root nodes).added; most = (root nodes).added + most })

    leaf_nodes : 0 < length nodes
    leaf_nodes = omega (arith, Joining.length-tree height nodes loads tree, Joining.nodes_of-some height)

    leaf_root : root leaf ≡ record { added = (root nodes).added; most = (root nodes).added + most }
    leaf_root = root-set nodes (record { added = (root nodes).added; most = (root nodes).added + most }) leaf_nodes

    leaf_loads : loads_of height leaf new ≡ raised (root nodes).added new
    leaf_loads = Joining.loads_of-leaf height leaf new flat ∙ ap (λ (x : Node). raised x.added new) leaf_root

    pub leaf_added : AddsOver (loads_of height nodes loads) (loads_of height leaf new) from to amount
    leaf_added =
        subst (λ ls. AddsOver (loads_of height nodes loads) ls from to amount) (sym leaf_loads)
        (subst (λ ls. AddsOver ls (raised (root nodes).added new) from to amount) (sym (Joining.loads_of-leaf height nodes loads flat)) (Joining.raised_over (root nodes).added loads new from to amount within adds))

    leaf_best : IsGreatest (loads_of height leaf new) 0 (length new) ((root nodes).added + most)
    leaf_best =
        subst (λ (x : Node). IsGreatest (loads_of height leaf new) 0 (length new) (x.added + most)) leaf_root
        (Joining.leaf_greatest height leaf new 0 (length new) most flat (omega (arith, adds.steps)) (omega arith) is)

    pub leaf_tree : IsTree height leaf new
    leaf_tree =
        Joining.tree_from_leaf height leaf new flat
        (length-set nodes 0 (record { added = (root nodes).added; most = (root nodes).added + most }) ∙ Joining.length-tree height nodes loads tree ∙ ap nodes_of flat)
        (subst (λ (x : Node). IsMost (loads_of height leaf new) x.most) (sym leaf_root)
        (subst (λ n. IsMostOver (loads_of height leaf new) 0 n ((root nodes).added + most)) (sym (Joining.length-loads_of height leaf new)) (Joining.most_from_greatest (loads_of height leaf new) 0 (length new) ((root nodes).added + most) leaf_best)))

    pub leaf_most : (root leaf).most ≡ (root nodes).added + most
    leaf_most = ap (λ (x : Node). x.most) leaf_root

    pub leaf_small : All (λ load. load ≤ 2 ^ 100) (loads_of height nodes loads) → HasRoom (loads_of height nodes loads) from to amount → (root nodes).added + most ≤ 2 ^ 100
    leaf_small small room =
        Joining.small_greatest (loads_of height leaf new) 0 (length new) ((root nodes).added + most)
        (small_after (loads_of height nodes loads) (loads_of height leaf new) from to amount small room leaf_added) (omega (arith, Joining.length-loads_of height leaf new)) leaf_best
