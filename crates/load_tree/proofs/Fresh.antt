-- A tree to which nothing was added.
use Rattle.std.proofs.Common.{◌≡◌, ℕ, suc, zero, ◌+◌, ◌-◌, ◌*◌, ◌/◌, ◌<◌, ◌≤◌, ◌^◌, ◌∙◌, sym, refl, ap, subst, inr, List, ◌∷◌, ◌++◌, length, take, replicate, arith, All}
use Rattle.std.specs.Prelude.{slice_range}
use Rattle.std.proofs.lemmas.List.{length-replicate, get_or-replicate, take-replicate, drop-replicate, replicate-append-replicate}
use Rattle.std.proofs.lemmas.List.Elements.{All-from_get_or}
use Rattle.load_tree.specs.declared.tree.Node.{Node}
use Rattle.load_tree.specs.Trees.{IsMost, IsTree, loads_of, lower, upper, left, right, root, raised, nodes_of, no_node}

pub nodes_of-next : (height : ℕ) → nodes_of (height + 1) ≡ 1 + 2 * nodes_of height
nodes_of-next height = let e : height + 1 ≡ suc height = omega arith in ap nodes_of e

raised_zeros : (n : ℕ) → raised 0 (replicate n 0) ≡ replicate n 0
raised_zeros zero = refl
raised_zeros (suc n) = ap (λ xs. 0 ∷ xs) (raised_zeros n)

most_zeros : (n : ℕ) → IsMost (replicate n 0) 0
most_zeros n = record { none_above = λ t _ low. omega (arith, get_or-replicate {A = ℕ} n t 0 0 (omega (arith, length-replicate {A = ℕ} n 0))); reached = inr refl }

-- a part of copies
range-replicate : {X : Type 0} (n i j : ℕ) (x : X) → i ≤ j → j ≤ n → slice_range (replicate n x) i j ≡ replicate (j - i) x
range-replicate n i j x order within = ap (take (j - i)) (drop-replicate i n x) ∙ take-replicate (j - i) (n - i) x (omega arith)

lower_zeros : (n : ℕ) → lower (replicate n 0) ≡ replicate (n / 2) 0
lower_zeros n = ap {B = List ℕ} (λ m. take (m / 2) (replicate n 0)) (length-replicate n 0) ∙ take-replicate (n / 2) n 0 (omega arith)

upper_zeros : (n : ℕ) → upper (replicate n 0) ≡ replicate (n - n / 2) 0
upper_zeros n = ap {B = List ℕ} (λ m. slice_range (replicate n 0) (m / 2) m) (length-replicate n 0) ∙ range-replicate n (n / 2) n 0 (omega arith) (omega arith)

module _ (k : ℕ) where
  abbrev many : List Node
  many = replicate (1 + 2 * nodes_of k) no_node

  left_fresh : left many ≡ replicate (nodes_of k) no_node
  left_fresh =
      let half : 1 + (1 + 2 * nodes_of k) / 2 - 1 ≡ nodes_of k = omega arith in
      ap (λ m. slice_range many 1 (1 + m / 2)) (length-replicate (1 + 2 * nodes_of k) no_node)
      ∙ range-replicate (1 + 2 * nodes_of k) 1 (1 + (1 + 2 * nodes_of k) / 2) no_node (omega arith) (omega arith) ∙ ap (λ n. replicate n no_node) half

  right_fresh : right many ≡ replicate (nodes_of k) no_node
  right_fresh =
      let half : 1 + 2 * nodes_of k - (1 + (1 + 2 * nodes_of k) / 2) ≡ nodes_of k = omega arith in
      ap (λ m. slice_range many (1 + m / 2) m) (length-replicate (1 + 2 * nodes_of k) no_node)
      ∙ range-replicate (1 + 2 * nodes_of k) (1 + (1 + 2 * nodes_of k) / 2) (1 + 2 * nodes_of k) no_node (omega arith) (omega arith) ∙ ap (λ n. replicate n no_node) half

  root_fresh : root many ≡ no_node
  root_fresh = get_or-replicate (1 + 2 * nodes_of k) 0 no_node no_node (omega arith)

pub loads_of-fresh : (height n : ℕ) → loads_of height (replicate (nodes_of height) no_node) (replicate n 0) ≡ replicate n 0
loads_of-fresh zero n = raised_zeros n
loads_of-fresh (suc k) n =
    let whole : n / 2 + (n - n / 2) ≡ n = omega arith in
    ap (λ (x : Node). raised x.added (loads_of k (left (many k)) (lower (replicate n 0)) ++ loads_of k (right (many k)) (upper (replicate n 0)))) (root_fresh k)
    ∙ ap (λ ns. raised 0 (loads_of k ns (lower (replicate n 0)) ++ loads_of k (right (many k)) (upper (replicate n 0)))) (left_fresh k)
    ∙ ap (λ ns. raised 0 (loads_of k (replicate (nodes_of k) no_node) (lower (replicate n 0)) ++ loads_of k ns (upper (replicate n 0)))) (right_fresh k)
    ∙ ap (λ xs. raised 0 (loads_of k (replicate (nodes_of k) no_node) xs ++ loads_of k (replicate (nodes_of k) no_node) (upper (replicate n 0)))) (lower_zeros n)
    ∙ ap (λ xs. raised 0 (loads_of k (replicate (nodes_of k) no_node) (replicate (n / 2) 0) ++ loads_of k (replicate (nodes_of k) no_node) xs)) (upper_zeros n)
    ∙ ap (λ xs. raised 0 (xs ++ loads_of k (replicate (nodes_of k) no_node) (replicate (n - n / 2) 0))) (loads_of-fresh k (n / 2))
    ∙ ap (λ xs. raised 0 (replicate (n / 2) 0 ++ xs)) (loads_of-fresh k (n - n / 2))
    ∙ ap (raised 0) (replicate-append-replicate (n / 2) (n - n / 2) 0)
    ∙ raised_zeros (n / 2 + (n - n / 2))
    ∙ ap {B = List ℕ} (λ m. replicate m 0) whole

pub tree_fresh : (height n : ℕ) → IsTree height (replicate (nodes_of height) no_node) (replicate n 0)
tree_fresh zero n = (refl, subst (λ xs. IsMost xs 0) (sym (loads_of-fresh zero n)) (most_zeros n))
tree_fresh (suc k) n = (
  length-replicate (1 + 2 * nodes_of k) no_node,
  subst (λ (x : Node). IsMost (loads_of (suc k) (many k) (replicate n 0)) x.most) (sym (root_fresh k)) (subst (λ xs. IsMost xs 0) (sym (loads_of-fresh (suc k) n)) (most_zeros n)),
  subst (λ ns. IsTree k ns (lower (replicate n 0))) (sym (left_fresh k)) (subst (λ xs. IsTree k (replicate (nodes_of k) no_node) xs) (sym (lower_zeros n)) (tree_fresh k (n / 2))),
  subst (λ ns. IsTree k ns (upper (replicate n 0))) (sym (right_fresh k)) (subst (λ xs. IsTree k (replicate (nodes_of k) no_node) xs) (sym (upper_zeros n)) (tree_fresh k (n - n / 2))),
)

pub small_fresh : (height n : ℕ) → All (λ load. load ≤ 2 ^ 100) (loads_of height (replicate (nodes_of height) no_node) (replicate n 0))
small_fresh height n =
    subst (λ xs. All (λ load. load ≤ 2 ^ 100) xs) (sym (loads_of-fresh height n))
    (All-from_get_or (λ load. load ≤ 2 ^ 100) (replicate n 0) 0 (λ t low. omega (arith, get_or-replicate {A = ℕ} n t 0 0 (omega (arith, length-replicate {A = ℕ} n 0)))))

-- what the loads keep, said of lists that are equal to these
pub well_of : (height : ℕ) (nodes ns : List Node) (loads ls : List ℕ) → ns ≡ nodes → ls ≡ loads
    → (length loads < 2 ^ 32) × IsTree height nodes loads × All (λ load. load ≤ 2 ^ 100) (loads_of height nodes loads)
    → (length ls < 2 ^ 32) × IsTree height ns ls × All (λ load. load ≤ 2 ^ 100) (loads_of height ns ls)
well_of height nodes ns loads ls same_nodes same_loads well =
    subst (λ xs. (length ls < 2 ^ 32) × IsTree height xs ls × All (λ load. load ≤ 2 ^ 100) (loads_of height xs ls)) (sym same_nodes)
    (subst (λ xs. (length xs < 2 ^ 32) × IsTree height nodes xs × All (λ load. load ≤ 2 ^ 100) (loads_of height nodes xs)) (sym same_loads) well)

pub well_fresh : (height n : ℕ) → n < 2 ^ 32
    → (length {A = ℕ} (replicate n 0) < 2 ^ 32) × IsTree height (replicate (nodes_of height) no_node) (replicate n 0) × All (λ load. load ≤ 2 ^ 100) (loads_of height (replicate (nodes_of height) no_node) (replicate n 0))
well_fresh height n few = (omega (arith, length-replicate {A = ℕ} n 0), tree_fresh height n, small_fresh height n)
