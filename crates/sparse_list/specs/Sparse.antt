-- Values by number, most of which are none.
use Rattle.std.specs.Prelude.{◌≡◌, ℕ, zero, suc, ◌+◌, ◌-◌, ◌<◌, ◌++◌, List, length, map, replicate, slice_index_or, slice_set, take}
use Rattle.sparse_list.specs.declared.list.Cell.{Cell}

-- the values of the first numbers, and that of all the others
pub record Sparse (X : Type 0) : Type 0 where
  pub none : X
  pub items : List X

-- the value of a number
abbrev pub item_at : {X : Type 0} → Sparse X → ℕ → X
item_at s number = slice_index_or s.items number s.none

-- the items up to this number at least
abbrev pub up_to : {X : Type 0} → ℕ → Sparse X → List X
up_to number s = s.items ++ replicate (number + 1 - length s.items) s.none

-- the cell at a place that is counted from 0
abbrev pub cell_at : {X : Type 0} → X → List (Cell X) → ℕ → Cell X
cell_at none cells k = slice_index_or cells k (record { owner = 0; value = none })

-- the value at a place that is counted from 1; at 0 there is none
abbrev pub value_at : {X : Type 0} → X → List (Cell X) → ℕ → X
value_at none cells zero = none
value_at none cells (suc k) = (cell_at none cells k).value

-- the values of the numbers whose places are these
abbrev pub values_of : {X : Type 0} → X → List (Cell X) → List ℕ → List X
values_of none cells places = map (value_at none cells) places

-- the place of a number, which is 0 for none
abbrev pub place_at : List ℕ → ℕ → ℕ
place_at places number = slice_index_or places number 0

-- each place of a number has a cell, which is of that number, and each cell stands at the place of its number
pub record AreCells {X : Type 0} (none : X) (cells : List (Cell X)) (places : List ℕ) : Type 0 where
  pub owned : (number k : ℕ) → place_at places number ≡ suc k → (k < length cells) × ((cell_at none cells k).owner ≡ number)
  pub placed : (k : ℕ) → k < length cells → place_at places (cell_at none cells k).owner ≡ suc k

-- the last cell
abbrev pub last_cell : {X : Type 0} → X → List (Cell X) → Cell X
last_cell none cells = cell_at none cells (length cells - 1)

-- the cells without that at a place, which is counted from 0: the last one moves there
abbrev pub cells_without : {X : Type 0} → X → ℕ → List (Cell X) → List (Cell X)
cells_without none k cells = slice_set (take (length cells - 1) cells) k (last_cell none cells)
