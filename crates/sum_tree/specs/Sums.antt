-- A tree of sums over places, whose nodes stand in one list.
use Rattle.std.specs.Prelude.{◌≡◌, ℕ, zero, suc, ◌+◌, ◌*◌, ◌<◌, ◌≤◌, ◌^◌, List, length, slice_index_or}

-- the sum at a node
abbrev pub sum_at : List ℕ → ℕ → ℕ
sum_at sums node = slice_index_or sums node 0

-- the sums at this many nodes, from this node on, summed
abbrev pub sum_from : List ℕ → ℕ → ℕ → ℕ
sum_from sums node zero = 0
sum_from sums node (suc n) = sum_at sums node + sum_from sums (node + 1) n

-- node 1 is the root, each node before the leaves has the sum of the nodes 2i and 2i + 1, and no leaf is above the greatest
pub record IsTree (greatest places : ℕ) (sums : List ℕ) : Type 0 where
  pub nodes : length sums ≡ 2 * places
  pub few : places < 2 ^ 32
  pub leaves : (i : ℕ) → places ≤ i → i < 2 * places → sum_at sums i ≤ greatest
  pub inner : (i : ℕ) → 1 ≤ i → i < places → sum_at sums i ≡ sum_at sums (2 * i) + sum_at sums (2 * i + 1)
  pub small : (i : ℕ) → 1 ≤ i → i < 2 * places → sum_at sums i * i ≤ greatest * (2 * places)
