-- A number at each place, as leaves of a tree of sums.
use Rattle.std.specs.Prelude.{◌≡◌, ℕ, ◌+◌, ◌-◌, ◌*◌, ◌≤◌, ◌^◌, List, drop, slice_index, take}
use Rattle.sum_tree.specs.Sums.{IsTree, sum_from}

-- the numbers at the places, which are the first leaves
abbrev pub numbers_at : ℕ → ℕ → List ℕ → List ℕ
numbers_at places leaves sums = take places (drop leaves sums)

-- the leaves are a power of two, no number is above the greatest, and past the places they are 0
pub record IsPlaced (greatest places leaves : ℕ) (sums : List ℕ) : Type 0 where
  pub levels : ℕ
  pub power : leaves ≡ 2 ^ levels
  pub within : places ≤ leaves
  pub tree : IsTree greatest leaves sums
  pub none_past : (i : ℕ) → places ≤ i → slice_index (drop leaves sums) i ≡ 0

-- a level of the tree has as many nodes as the number of its first one, `start`; as much is left of the leaves from a place on as of this level from a node on
pub record IsLeft (leaves from : ℕ) (sums : List ℕ) (start node : ℕ) : Type 0 where
  pub above : ℕ
  pub below : ℕ
  pub start_is : start ≡ 2 ^ above
  pub leaves_are : leaves ≡ 2 ^ (above + below)
  pub low : start ≤ node
  pub high : node ≤ 2 * start
  pub left : sum_from sums node (2 * start - node) ≡ sum_from sums (leaves + from) (leaves - from)
