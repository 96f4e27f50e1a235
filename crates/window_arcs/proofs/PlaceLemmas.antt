-- The numbers at the places are the first leaves of a tree of sums.
use Rattle.std.proofs.Common.{◌≡◌, ℕ, zero, suc, ◌+◌, ◌-◌, ◌*◌, ◌<◌, ◌≤◌, ◌^◌, ◌∙◌, sym, ap, List, length, map, get_or, set, drop, take, arith, sum}
use Rattle.std.proofs.Math.Nat.{pow-succ', pow-le-pow_right}
use Rattle.std.proofs.Math.Seq.{take-set-lt}
use Rattle.std.proofs.lemmas.List.{drop-map, get_or-drop, get_or-set_other, get_or-take, length-map, length-take-le, map-set, set-get_or, take-take}
use Rattle.sum_tree.specs.Sums.{sum_at, sum_from, IsTree}
use Rattle.sum_tree.proofs.LeafLemmas.{length-leaves, sum-leaves}
use Rattle.sum_tree.proofs.SumLemmas.{sum_from-children, sum_from-last, value-at}
use Rattle.window_arcs.specs.Places.{numbers_at, IsPlaced}

-- a number for each place
pub length-numbers : {greatest : ℕ} (places leaves : ℕ) (sums : List ℕ) → IsPlaced greatest places leaves sums → length (numbers_at places leaves sums) ≡ places
length-numbers places leaves sums placed = length-take-le places (drop leaves sums) (omega (arith, length-leaves leaves sums placed.tree.nodes, placed.within))

-- a leaf that is set is the number at its place
set_numbers : (places leaves place number : ℕ) (old new : List ℕ) → place < places → drop leaves new ≡ set (drop leaves old) place number → numbers_at places leaves new ≡ set (numbers_at places leaves old) place number
set_numbers places leaves place number old new within is =
    ap (take places) is ∙ take-set-lt places (drop leaves old) place number within

-- a tree of other numbers, of which a leaf is set
module _ {A : Type 0} (value : A → ℕ) (greatest places leaves place : ℕ) (old new : List A) (number : A) (placed : IsPlaced greatest places leaves (map value old)) (within : place < places) where
  module _ (is : drop leaves new ≡ set (drop leaves old) place number) where
    leaves_set : drop leaves (map value new) ≡ set (drop leaves (map value old)) place (value number)
    leaves_set = drop-map value leaves new ∙ ap (map value) is ∙ map-set value (drop leaves old) place number ∙ ap (λ xs. set xs place (value number)) (sym (drop-map value leaves old))

    pub numbers_set : numbers_at places leaves (map value new) ≡ set (numbers_at places leaves (map value old)) place (value number)
    numbers_set = set_numbers places leaves place (value number) (map value old) (map value new) within leaves_set

    pub placed_set : IsTree greatest leaves (map value new) → IsPlaced greatest places leaves (map value new)
    placed_set tree = record {
      levels = placed.levels;
      power = placed.power;
      within = placed.within;
      tree = tree;
      none_past = λ i past. ap (λ xs. get_or xs i 0) leaves_set ∙ get_or-set_other (drop leaves (map value old)) place i (value number) 0 (λ same. omega (arith, past, within)) ∙ placed.none_past i past;
    }

  -- or stays, if it is that number
  pub numbers_same : (here : A) → here ≡ get_or old (leaves + place) here → value here ≡ value number → numbers_at places leaves (map value old) ≡ set (numbers_at places leaves (map value old)) place (value number)
  numbers_same here read same =
      let numbers : List ℕ = numbers_at places leaves (map value old) in
      let low : leaves + place < length old = omega (arith, within, placed.within, placed.tree.nodes, length-map old value) in
      let at : get_or numbers place 0 ≡ value number = get_or-take places (drop leaves (map value old)) place 0 within ∙ get_or-drop leaves (map value old) place 0 ∙ sym (value-at value old (leaves + place) here low read) ∙ same in
      sym (set-get_or numbers place 0) ∙ ap (set numbers place) at

-- a prefix of the numbers is summed
pub sum-prefix : {greatest : ℕ} (places leaves n : ℕ) (sums : List ℕ) → IsPlaced greatest places leaves sums → n ≤ places → sum (take n (numbers_at places leaves sums)) ≡ sum_from sums leaves n
sum-prefix places leaves n sums placed within =
    ap sum (take-take n places (drop leaves sums) within)
    ∙ sum-leaves sums leaves n (omega (arith, placed.tree.nodes, placed.within))

-- each level of the tree has the sum of the root
pub level-sum : (greatest leaves : ℕ) (sums : List ℕ) (k : ℕ) → IsTree greatest leaves sums → 2 ^ k ≤ leaves → sum_from sums (2 ^ k) (2 ^ k) ≡ sum_at sums 1
level-sum greatest leaves sums zero tree within = omega arith
level-sum greatest leaves sums (suc k) tree within =
    let double : 2 ^ suc k ≡ 2 * 2 ^ k = pow-succ' 2 k in
    let some : 2 ^ 0 ≤ 2 ^ k = pow-le-pow_right {n = 2} (omega arith) {i = 0} {j = k} (omega arith) in
    ap (λ m. sum_from sums m m) double
    ∙ sum_from-children greatest leaves sums (2 ^ k) (2 ^ k) tree (omega (arith, some)) (omega (arith, double))
    ∙ level-sum greatest leaves sums k tree (omega (arith, double))

-- what is added to a sum is not below it
pub sum_from-more : (sums : List ℕ) (node n d : ℕ) → sum_from sums node n ≤ sum_from sums node (n + d)
sum_from-more sums node n zero = let e : n + 0 ≡ n = omega arith in omega (arith, ap (sum_from sums node) e)
sum_from-more sums node n (suc d) = let e : n + suc d ≡ suc (n + d) = omega arith in omega (arith, ap (sum_from sums node) e, sum_from-last sums node (n + d), sum_from-more sums node n d)

-- nodes of no sum add nothing
sum_from-none : (sums : List ℕ) (node n d : ℕ) → ((i : ℕ) → n ≤ i → sum_at sums (node + i) ≡ 0) → sum_from sums node (n + d) ≡ sum_from sums node n
sum_from-none sums node n zero none = let e : n + 0 ≡ n = omega arith in ap (sum_from sums node) e
sum_from-none sums node n (suc d) none =
    let e : n + suc d ≡ suc (n + d) = omega arith in
    omega (arith, ap (sum_from sums node) e, sum_from-last sums node (n + d), sum_from-none sums node n d none, none (n + d) (omega arith))

-- the numbers at all places are those of all leaves
pub sum-all : {greatest : ℕ} (places leaves : ℕ) (sums : List ℕ) → IsPlaced greatest places leaves sums → sum (take places (numbers_at places leaves sums)) ≡ sum_at sums 1
sum-all {greatest} places leaves sums placed =
    let within : places ≤ leaves = placed.within in
    let all : places + (leaves - places) ≡ leaves = omega arith in
    sum-prefix places leaves places sums placed (omega arith)
    ∙ sym (sum_from-none sums leaves places (leaves - places) (λ i past. sym (get_or-drop leaves sums i 0) ∙ placed.none_past i past))
    ∙ ap (sum_from sums leaves) all
    ∙ ap (λ m. sum_from sums m m) placed.power
    ∙ level-sum greatest leaves sums placed.levels placed.tree (omega (arith, placed.power))

-- what was summed are the numbers before the place
pub sum_before : {greatest : ℕ} (places leaves from before : ℕ) (numbers sums : List ℕ) → numbers_at places leaves sums ≡ numbers → IsPlaced greatest places leaves sums → from ≤ length numbers → before ≡ sum_from sums (leaves + 0) (from - 0) → before ≡ sum (take from numbers)
sum_before places leaves from before numbers sums view placed within counted =
    let first : leaves + 0 ≡ leaves = omega arith in
    let many : from - 0 ≡ from = omega arith in
    counted
    ∙ ap (λ n. sum_from sums n (from - 0)) first
    ∙ ap (sum_from sums leaves) many
    ∙ sym (sum-prefix places leaves from sums placed (omega (arith, within, length-numbers places leaves sums placed, ap length view)))
    ∙ ap (λ xs. sum (take from xs)) view
