-- The first number but 0 from a place on, searched up from its leaf and down again.
use Rattle.std.proofs.Common.{◌≡◌, ◌≢◌, ℕ, zero, suc, ◌+◌, ◌-◌, ◌*◌, ◌<◌, ◌≤◌, ◌^◌, ◌%◌, ◌/◌, ◌∙◌, sym, refl, ap, ⊎_elim, List, length, map, get_or, drop, take, arith, sum, All}
use Rattle.std.specs.Prelude.{slice_range}
use Rattle.std.proofs.Math.Nat.{pow-succ', pow-le-pow_right}
use Rattle.std.proofs.lemmas.Bool.{cases_lt}
use Rattle.std.proofs.lemmas.List.{drop-take, get_or-drop, get_or-take, take-take}
use Rattle.std.proofs.lemmas.List.Elements.{All-from_get_or}
use Rattle.std.proofs.lemmas.List.Sums.{get_or-le-sum_by, sum_by_more, sum_by-take-drop, sum_by-take-le}
use Rattle.sum_tree.specs.Sums.{sum_at, sum_from, IsTree}
use Rattle.sum_tree.proofs.SumLemmas.{sum_from-children, value-at}
use Rattle.window_arcs.specs.Places.{numbers_at, IsLeft, IsPlaced}
use Rattle.window_arcs.proofs.PlaceLemmas.{length-numbers, level-sum, sum-all, sum-prefix, sum_before}

-- sums of nodes one after another
sum_from-split : (sums : List ℕ) (node m n : ℕ) → sum_from sums node (m + n) ≡ sum_from sums node m + sum_from sums (node + m) n
sum_from-split sums node zero n =
    let e : node + 0 ≡ node = omega arith in
    let z : zero + n ≡ n = omega arith in
    omega (arith, ap (sum_from sums node) z, ap (λ a. sum_from sums a n) e)
sum_from-split sums node (suc m) n =
    let e : node + 1 + m ≡ node + suc m = omega arith in
    let s : suc m + n ≡ suc (m + n) = omega arith in
    omega (arith, ap (sum_from sums node) s, sum_from-split sums (node + 1) m n, ap (λ a. sum_from sums a n) e)

-- the number that is compared with 0 is the sum at the node
module _ {A : Type 0} (value : A → ℕ) (sums : List A) (node zero : ℕ) (here : A) (within : node < length sums) (is : here ≡ get_or sums node here) where
  pub none_at : value here ≡ zero → zero ≡ 0 → sum_at (map value sums) node ≡ 0
  none_at same none = sym (value-at value sums node here within is) ∙ same ∙ none

  pub some_at : value here ≢ zero → zero ≡ 0 → sum_at (map value sums) node ≢ 0
  some_at apart none found = apart (value-at value sums node here within is ∙ found ∙ sym none)

-- a node of no sum adds nothing to what is left of its level
pub left_next : (leaves from start node : ℕ) (sums : List ℕ) → node < 2 * start → sum_at sums node ≡ 0 → IsLeft leaves from sums start node → IsLeft leaves from sums start (node + 1)
left_next leaves from start node sums within none is =
    let more : 2 * start - node ≡ suc (2 * start - (node + 1)) = omega arith in
    record {
      above = is.above;
      below = is.below;
      start_is = is.start_is;
      leaves_are = is.leaves_are;
      low = omega (arith, is.low);
      high = omega arith;
      left = omega (arith, is.left, none, ap (sum_from sums node) more);
    }

-- a level has a node
pub level_some : (leaves from start node : ℕ) (sums : List ℕ) → IsLeft leaves from sums start node → 1 ≤ start
level_some leaves from start node sums is =
    let some : 2 ^ 0 ≤ 2 ^ is.above = pow-le-pow_right {n = 2} (omega arith) {i = 0} {j = is.above} (omega arith) in
    omega (arith, is.start_is, some)

-- a level with more than one node is below another one
half_power : (above start : ℕ) → start ≡ 2 ^ above → 1 < start → (half : ℕ) × (above ≡ suc half) × (start ≡ 2 * 2 ^ half)
half_power zero start is some = absurd (omega (arith, is))
half_power (suc half) start is some = (half, refl, is ∙ pow-succ' 2 half)

module _ {greatest : ℕ} (leaves from : ℕ) (sums : List ℕ) (tree : IsTree greatest leaves sums) where
  -- no level has more nodes than the leaves
  pub level_within : (start node : ℕ) → IsLeft leaves from sums start node → start ≤ leaves
  level_within start node is =
      let more : 2 ^ is.above ≤ 2 ^ (is.above + is.below) = pow-le-pow_right {n = 2} (omega arith) {i = is.above} {j = is.above + is.below} (omega arith) in
      omega (arith, is.start_is, is.leaves_are, more)

  -- on the level above
  pub left_up : (start node : ℕ) → 1 < start → node % 2 ≡ 0 → IsLeft leaves from sums start node → IsLeft leaves from sums (start / 2) (node / 2)
  left_up start node some even is =
      let half = half_power is.above start is.start_is some in
      let first : start ≡ 2 * (start / 2) = omega (arith, half.2) in
      let here : node ≡ 2 * (node / 2) = omega arith in
      let many : 2 * start - node ≡ 2 * (2 * (start / 2) - node / 2) = omega (arith, first, here) in
      let levels : is.above + is.below ≡ half.0 + (is.below + 1) = omega (arith, half.1) in
      record {
        above = half.0;
        below = is.below + 1;
        start_is = omega (arith, half.2);
        leaves_are = is.leaves_are ∙ ap (λ n. 2 ^ n) levels;
        low = omega (arith, is.low);
        high = omega (arith, is.high);
        left = sym (sum_from-children greatest leaves sums (node / 2) (2 * (start / 2) - node / 2) tree (omega (arith, is.low, some)) (omega (arith, first, level_within start node is, is.high)))
            ∙ sym (ap (λ a. sum_from sums a (2 * (2 * (start / 2) - node / 2))) here)
            ∙ sym (ap (sum_from sums node) many)
            ∙ is.left;
      }

  module _ (start node : ℕ) (less : start < leaves) (is : IsLeft leaves from sums start node) where
    -- there is a level below
    some_below : 1 ≤ is.below
    some_below =
        ⊎_elim
        (λ (some : 0 < is.below). omega arith)
        (λ (no : is.below ≤ 0). let e : is.above + is.below ≡ is.above = omega arith in absurd (omega (arith, is.start_is, is.leaves_are, ap (λ n. 2 ^ n) e)))
        (cases_lt 0 is.below)

    -- with twice as many nodes
    pub below_within : 2 * start ≤ leaves
    below_within =
        let more : 2 ^ suc is.above ≤ 2 ^ (is.above + is.below) = pow-le-pow_right {n = 2} (omega arith) {i = suc is.above} {j = is.above + is.below} (omega (arith, some_below)) in
        omega (arith, pow-succ' 2 is.above, is.start_is, is.leaves_are, more)

    -- on which as much is left
    pub left_down : (next child : ℕ) → next ≡ 2 * start → child ≡ 2 * node → 1 ≤ start → IsLeft leaves from sums next child
    left_down next child next_is child_is some =
        let up : is.above + 1 ≡ suc is.above = omega arith in
        let levels : is.above + is.below ≡ is.above + 1 + (is.below - 1) = omega (arith, some_below) in
        let many : 2 * next - child ≡ 2 * (2 * start - node) = omega arith in
        record {
          above = is.above + 1;
          below = is.below - 1;
          start_is = omega (arith, next_is, is.start_is, pow-succ' 2 is.above, ap (λ n. 2 ^ n) up);
          leaves_are = is.leaves_are ∙ ap (λ n. 2 ^ n) levels;
          low = omega (arith, is.low);
          high = omega (arith, is.high);
          left = ap (sum_from sums child) many
              ∙ ap (λ a. sum_from sums a (2 * (2 * start - node))) child_is
              ∙ sum_from-children greatest leaves sums node (2 * start - node) tree (omega (arith, is.low, some)) (omega (arith, below_within, is.high, is.low))
              ∙ is.left;
        }

    -- and the children have the sum of the node
    pub children_are : (child : ℕ) → child ≡ 2 * node → 1 ≤ start → node < 2 * start → sum_at sums node ≡ sum_at sums child + sum_at sums (child + 1)
    children_are child child_is some low =
        tree.inner node (omega (arith, is.low, some)) (omega (arith, below_within, low)) ∙ ap (λ n. sum_at sums n + sum_at sums (n + 1)) (sym child_is)

  -- past the end of a level nothing is left
  pub left_none : (start : ℕ) → IsLeft leaves from sums start (2 * start) → sum_from sums (leaves + from) (leaves - from) ≡ 0
  left_none start is = let none : 2 * start - 2 * start ≡ 0 = omega arith in sym is.left ∙ ap (sum_from sums (2 * start)) none

-- what is left is what is not before
module _ {greatest : ℕ} (places leaves from : ℕ) (sums : List ℕ) (placed : IsPlaced greatest places leaves sums) (within : from ≤ places) where
  -- what is left after the place, and what is before it
  before_left : (n : ℕ) → n ≤ leaves → sum_from sums leaves n + sum_from sums (leaves + n) (leaves - n) ≡ sum_at sums 1
  before_left n low =
      let all : n + (leaves - n) ≡ leaves = omega arith in
      sym (sum_from-split sums leaves n (leaves - n))
      ∙ ap (sum_from sums leaves) all
      ∙ ap (λ m. sum_from sums m m) placed.power
      ∙ level-sum greatest leaves sums placed.levels placed.tree (omega (arith, placed.power))

  first_is : sum_from sums (leaves + 0) (from - 0) ≡ sum_from sums leaves from
  first_is =
      let first : leaves + 0 ≡ leaves = omega arith in
      let many : from - 0 ≡ from = omega arith in
      ap (λ n. sum_from sums n (from - 0)) first ∙ ap (sum_from sums leaves) many

  -- if nothing is left, all places have no more than those before
  pub none_left : sum_from sums (leaves + from) (leaves - from) ≡ 0 → sum (take places (numbers_at places leaves sums)) ≤ sum_from sums (leaves + 0) (from - 0)
  none_left none = omega (arith, sum-all places leaves sums placed, before_left from (omega (arith, within, placed.within)), first_is, none)

  module _ (node : ℕ) (is : IsLeft leaves from sums leaves node) (low : node < 2 * leaves) (found : sum_at sums node ≢ 0) where
    at_leaf : leaves + (node - leaves) ≡ node
    at_leaf = omega (arith, is.low)

    -- the leaf is that of a place
    pub leaf_within : node - leaves < places
    leaf_within =
        ⊎_elim
        (λ (in_places : node - leaves < places). in_places)
        (λ (past : places ≤ node - leaves). absurd (found (sym (get_or-drop leaves sums (node - leaves) 0 ∙ ap (sum_at sums) at_leaf) ∙ placed.none_past (node - leaves) past)))
        (cases_lt (node - leaves) places)

    leaf_number : get_or (numbers_at places leaves sums) (node - leaves) 0 ≡ sum_at sums node
    leaf_number = get_or-take places (drop leaves sums) (node - leaves) 0 leaf_within ∙ get_or-drop leaves sums (node - leaves) 0 ∙ ap (sum_at sums) at_leaf

    -- before it stands as much as before the place
    pub leaf_before : sum (take (node - leaves) (numbers_at places leaves sums)) ≡ sum_from sums (leaves + 0) (from - 0)
    leaf_before =
        let rest : leaves - (node - leaves) ≡ 2 * leaves - node = omega (arith, is.low) in
        omega (
          arith,
          sum-prefix places leaves (node - leaves) sums placed (omega (arith, leaf_within)),
          before_left from (omega (arith, within, placed.within)),
          before_left (node - leaves) (omega (arith, leaf_within, placed.within)),
          ap (λ n. sum_from sums n (leaves - (node - leaves))) at_leaf,
          ap (sum_from sums node) rest,
          is.left,
          first_is,
        )

    -- and with it more
    pub leaf_some : 0 < get_or (numbers_at places leaves sums) (node - leaves) 0
    leaf_some = omega (arith, leaf_number, found)

module _ {greatest : ℕ} (places leaves from found before prefix : ℕ) (numbers sums : List ℕ) (view : numbers_at places leaves sums ≡ numbers) (placed : IsPlaced greatest places leaves sums) (within : from ≤ length numbers) (counted : before ≡ sum_from sums (leaves + 0) (from - 0)) (prefix_is : prefix ≡ sum (take found numbers)) (fits : prefix ≤ before) (longest : found < length numbers → before < prefix + get_or numbers found 0) where
  before_is : before ≡ sum (take from numbers)
  before_is = sum_before places leaves from before numbers sums view placed within counted

  -- it is not before the place
  pub found-order : from ≤ found
  found-order =
      ⊎_elim
      (λ (less : found < from).
      let more : sum (take (found + 1) numbers) ≤ sum (take from numbers) =
      omega (arith, ap sum (take-take (found + 1) from numbers (omega arith)), sum_by-take-le (λ (x : ℕ). x) (take from numbers) (found + 1)) in
      absurd (omega (arith, more, sum_by_more (λ (x : ℕ). x) numbers found 0 (omega arith), longest (omega arith), before_is, prefix_is)))
      (λ (up : from ≤ found). up)
      (cases_lt found from)

  -- between them stands no other number
  pub found-none : All (λ number. number ≡ 0) (slice_range numbers from found)
  found-none =
      let all : from + (found - from) ≡ found = omega (arith, found-order) in
      let between : List ℕ = slice_range numbers from found in
      let none : sum between ≡ 0 =
      omega (
        arith,
        sum_by-take-drop (λ (x : ℕ). x) (take found numbers) from,
        ap sum (take-take from found numbers found-order),
        ap (λ n. sum (drop from (take n numbers))) all,
        ap sum (drop-take from (found - from) numbers),
        before_is,
        prefix_is,
        fits,
      ) in
      All-from_get_or (λ number. number ≡ 0) between 0 (λ i low. omega (arith, get_or-le-sum_by (λ (x : ℕ). x) between i 0 low, none))

  -- there it stands
  pub found-some : found < length numbers → get_or numbers found 0 ≢ 0
  found-some less none = omega (arith, longest less, fits, none)

-- the first place from this one on, as it is searched
module _ {greatest : ℕ} (places leaves from : ℕ) (numbers sums : List ℕ) (view : numbers_at places leaves sums ≡ numbers) (placed : IsPlaced greatest places leaves sums) (within : from ≤ length numbers) where
  from_within : from ≤ places
  from_within = omega (arith, within, ap length view, length-numbers places leaves sums placed)

  abbrev before : ℕ
  before = sum_from sums (leaves + 0) (from - 0)

  -- there is none if nothing is left
  pub next-none : sum_from sums (leaves + from) (leaves - from) ≡ 0 → All (λ number. number ≡ 0) (slice_range numbers from places)
  next-none none =
      found-none places leaves from places before (sum (take places numbers)) numbers sums view placed within refl refl
      (omega (arith, none_left places leaves from sums placed from_within none, ap (λ xs. sum (take places xs)) view))
      (λ less. absurd (omega (arith, less, ap length view, length-numbers places leaves sums placed)))

  module _ (node : ℕ) (is : IsLeft leaves from sums leaves node) (low : node < 2 * leaves) (found : sum_at sums node ≢ 0) where
    found_fits : sum (take (node - leaves) numbers) ≤ before
    found_fits = omega (arith, leaf_before places leaves from sums placed from_within node is low found, ap (λ xs. sum (take (node - leaves) xs)) view)

    found_longest : before < sum (take (node - leaves) numbers) + get_or numbers (node - leaves) 0
    found_longest = omega (arith, leaf_before places leaves from sums placed from_within node is low found, leaf_some places leaves from sums placed from_within node is low found, ap (λ xs. sum (take (node - leaves) xs)) view, ap (λ xs. get_or xs (node - leaves) 0) view)

    pub next-order : from ≤ node - leaves
    next-order = found-order places leaves from (node - leaves) before (sum (take (node - leaves) numbers)) numbers sums view placed within refl refl found_fits (λ _. found_longest)

    pub next-within : node - leaves < length numbers
    next-within = omega (arith, leaf_within places leaves from sums placed from_within node is low found, ap length view, length-numbers places leaves sums placed)

    pub next-zeros : All (λ number. number ≡ 0) (slice_range numbers from (node - leaves))
    next-zeros = found-none places leaves from (node - leaves) before (sum (take (node - leaves) numbers)) numbers sums view placed within refl refl found_fits (λ _. found_longest)
