-- The longest prefix of the numbers at the places whose sum is within a limit, searched from the root of the tree down.
use Rattle.std.proofs.Common.{◌≡◌, ℕ, suc, ◌+◌, ◌-◌, ◌*◌, ◌<◌, ◌≤◌, ◌^◌, ◌∙◌, sym, refl, ap, ⊎_elim, List, length, get_or, drop, take, arith, sum}
use Rattle.std.proofs.Math.Nat.{pow-succ', pow-le-pow_right}
use Rattle.std.proofs.lemmas.Bool.{cases_lt}
use Rattle.std.proofs.lemmas.List.{get_or-drop, get_or-take, get_or_read}
use Rattle.sum_tree.specs.Sums.{sum_at, sum_from}
use Rattle.sum_tree.proofs.SumLemmas.{sum_from-children, sum_from-last}
use Rattle.window_arcs.specs.Places.{numbers_at, IsPlaced}
use Rattle.window_arcs.proofs.PlaceLemmas.{level-sum, sum-prefix, sum_from-more}

-- so far: all nodes of the level before this one have a sum within the limit, and with it one past the limit
pub record IsSearched (leaves : ℕ) (sums : List ℕ) (limit start node sum : ℕ) : Type 0 where
  pub above : ℕ
  pub below : ℕ
  pub start_is : start ≡ 2 ^ above
  pub leaves_are : leaves ≡ 2 ^ (above + below)
  pub low : start ≤ node
  pub high : node < 2 * start
  pub so_far : sum ≡ sum_from sums start (node - start)
  pub fits : sum ≤ limit
  pub past : limit < sum + sum_at sums node

module _ (places leaves limit : ℕ) (sums : List ℕ) (placed : IsPlaced (2 ^ 48) places leaves sums) where
  -- there is a leaf
  pub some_leaf : 1 ≤ leaves
  some_leaf = let some : 2 ^ 0 ≤ 2 ^ placed.levels = pow-le-pow_right {n = 2} (omega arith) {i = 0} {j = placed.levels} (omega arith) in omega (arith, placed.power, some)

  module _ (here : ℕ) (here_is : here ≡ get_or sums 1 here) where
    -- the sum of the root is read
    pub root_sum : here ≡ sum_at sums 1
    root_sum = get_or_read sums 1 here (omega (arith, some_leaf, placed.tree.nodes)) here_is 0

  -- at the root
  pub search-root : limit < sum_at sums 1 → IsSearched leaves sums limit 1 1 0
  search-root more =
      let none : placed.levels ≡ 0 + placed.levels = omega arith in
      record {
        above = 0;
        below = placed.levels;
        start_is = omega arith;
        leaves_are = placed.power ∙ ap (λ n. 2 ^ n) none;
        low = omega arith;
        high = omega arith;
        so_far = refl;
        fits = omega arith;
        past = omega (arith, more);
      }

  module _ (start node sum_before : ℕ) (searched : IsSearched leaves sums limit start node sum_before) where
    some_start : 1 ≤ start
    some_start = omega (arith, searched.low, searched.high)

    module _ (inner : start < leaves) where
      -- a level is left
      one_below : 1 ≤ searched.below
      one_below =
          ⊎_elim
          (λ (less : 0 < searched.below). omega arith)
          (λ (no : searched.below ≤ 0). let e : searched.above + searched.below ≡ searched.above = omega arith in absurd (omega (arith, searched.start_is, searched.leaves_are, ap (λ n. 2 ^ n) e)))
          (cases_lt 0 searched.below)

      -- the next level is one of the tree
      pub next_level : 2 * start ≤ leaves
      next_level =
          let more : 2 ^ suc searched.above ≤ 2 ^ (searched.above + searched.below) = pow-le-pow_right {n = 2} (omega arith) {i = suc searched.above} {j = searched.above + searched.below} (omega (arith, one_below)) in
          omega (arith, pow-succ' 2 searched.above, searched.start_is, searched.leaves_are, more)

      next_start : 2 * start ≡ 2 ^ (searched.above + 1)
      next_start = let e : searched.above + 1 ≡ suc searched.above = omega arith in omega (arith, searched.start_is, pow-succ' 2 searched.above, ap (λ n. 2 ^ n) e)

      next_leaves : leaves ≡ 2 ^ (searched.above + 1 + (searched.below - 1))
      next_leaves = let e : searched.above + searched.below ≡ searched.above + 1 + (searched.below - 1) = omega (arith, one_below) in searched.leaves_are ∙ ap (λ n. 2 ^ n) e

      next_sum : sum_before ≡ sum_from sums (2 * start) (2 * node - 2 * start)
      next_sum =
          let low : start ≤ node = searched.low in
          let high : node < 2 * start = searched.high in
          let wide : 2 * node - 2 * start ≡ 2 * (node - start) = omega arith in
          searched.so_far
          ∙ sym (sum_from-children (2 ^ 48) leaves sums start (node - start) placed.tree some_start (omega (arith, next_level)))
          ∙ ap (sum_from sums (2 * start)) (sym wide)

      -- with the left child
      left_sum : sum_before + sum_at sums (2 * node) ≡ sum_from sums (2 * start) (2 * node + 1 - 2 * start)
      left_sum =
          let low : start ≤ node = searched.low in
          let more : 2 * node + 1 - 2 * start ≡ suc (2 * node - 2 * start) = omega arith in
          let last : 2 * start + (2 * node - 2 * start) ≡ 2 * node = omega arith in
          omega (arith, next_sum, ap (sum_from sums (2 * start)) more, sum_from-last sums (2 * start) (2 * node - 2 * start), ap (sum_at sums) last)

      -- both children have the sum of the node
      children : sum_at sums node ≡ sum_at sums (2 * node) + sum_at sums (2 * node + 1)
      children = placed.tree.inner node (omega (arith, some_start, searched.low)) (omega (arith, searched.high, next_level))

      -- the sum with the left child is no more than that of the root
      left_within : sum_before + sum_at sums (2 * node) ≤ sum_at sums 1
      left_within =
          let low : start ≤ node = searched.low in
          let high : node < 2 * start = searched.high in
          let all : 2 * node + 1 - 2 * start + (2 * start - (2 * node + 1 - 2 * start)) ≡ 2 * start = omega arith in
          omega (
            arith,
            left_sum,
            sum_from-more sums (2 * start) (2 * node + 1 - 2 * start) (2 * start - (2 * node + 1 - 2 * start)),
            ap (sum_from sums (2 * start)) all,
            ap (λ m. sum_from sums m m) next_start,
            level-sum (2 ^ 48) leaves sums (searched.above + 1) placed.tree (omega (arith, next_start, next_level)),
          )

      module _ (child here : ℕ) (child_is : child ≡ 2 * node) (here_is : here ≡ get_or sums child here) where
        -- there is a left child
        pub child_within : child < length sums
        child_within = omega (arith, child_is, next_level, searched.high, placed.tree.nodes)

        child_sum : here ≡ sum_at sums child
        child_sum = get_or_read sums child here child_within here_is 0

        here_sum : here ≡ sum_at sums (2 * node)
        here_sum = child_sum ∙ ap (sum_at sums) child_is

        -- the sum with the left child is no more than that of the root, which fits
        pub left_fits : sum_before + here < 2 ^ 128
        left_fits = omega (arith, here_sum, left_within, placed.tree.small 1 (omega arith) (omega (arith, some_leaf)), placed.tree.few)

        module _ (after : ℕ) (after_is : after ≡ 2 * start) where
          -- the left child is past the limit
          pub search-left : limit < sum_before + here → IsSearched leaves sums limit after child sum_before
          search-left more = record {
            above = searched.above + 1;
            below = searched.below - 1;
            start_is = after_is ∙ next_start;
            leaves_are = next_leaves;
            low = omega (arith, searched.low);
            high = omega (arith, searched.high);
            so_far = next_sum ∙ omega (arith, ap (λ m. sum_from sums m (2 * node - m)) after_is, ap (λ m. sum_from sums after (m - after)) child_is);
            fits = searched.fits;
            past = omega (arith, more, child_sum);
          }

          -- the left child is within it
          pub search-right : sum_before + here ≤ limit → IsSearched leaves sums limit after (child + 1) (sum_before + here)
          search-right less = record {
            above = searched.above + 1;
            below = searched.below - 1;
            start_is = after_is ∙ next_start;
            leaves_are = next_leaves;
            low = omega (arith, searched.low);
            high = omega (arith, searched.high);
            so_far = omega (
              arith,
              left_sum,
              here_sum,
              ap (λ m. sum_from sums m (2 * node + 1 - m)) after_is,
              ap (λ m. sum_from sums after (m + 1 - after)) child_is,
            );
            fits = less;
            past = omega (arith, searched.past, children, here_sum, ap (λ m. sum_at sums (m + 1)) child_is);
          }

    module _ (last : leaves ≤ start) where
      -- the leaves are the last level
      is_last : start ≡ leaves
      is_last =
          let more : 2 ^ searched.above ≤ 2 ^ (searched.above + searched.below) = pow-le-pow_right {n = 2} (omega arith) {i = searched.above} {j = searched.above + searched.below} (omega arith) in
          omega (arith, searched.start_is, searched.leaves_are, more)

      last_sum : sum_before ≡ sum_from sums leaves (node - leaves)
      last_sum = searched.so_far ∙ ap (λ m. sum_from sums m (node - m)) is_last

      last_past : limit < sum_before + get_or (drop leaves sums) (node - leaves) 0
      last_past =
          let at : leaves + (node - leaves) ≡ node = omega (arith, searched.low, is_last) in
          omega (arith, searched.past, get_or-drop leaves sums (node - leaves) 0, ap (sum_at sums) at)

      pub low_node : leaves ≤ node
      low_node = omega (arith, searched.low, is_last)

      -- a place is found
      pub found_place : node - leaves < places
      found_place =
          ⊎_elim
          (λ (in_places : node - leaves < places). in_places)
          (λ (past : places ≤ node - leaves). absurd (omega (arith, last_past, searched.fits, placed.none_past (node - leaves) past)))
          (cases_lt (node - leaves) places)

      -- with the sum before it
      pub found_sum : sum_before ≡ sum (take (node - leaves) (numbers_at places leaves sums))
      found_sum = last_sum ∙ sym (sum-prefix places leaves (node - leaves) sums placed (omega (arith, found_place)))

      -- and its number is too much
      pub found_past : limit < sum_before + get_or (numbers_at places leaves sums) (node - leaves) 0
      found_past = omega (arith, last_past, get_or-take places (drop leaves sums) (node - leaves) 0 found_place)
