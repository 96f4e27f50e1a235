-- Trees over a list of loads, whose nodes stand with each one before those of its left half, and these before those of its right half.
use Rattle.std.specs.Prelude.{◌≡◌, ℕ, zero, suc, ◌+◌, ◌*◌, ◌/◌, ◌<◌, ◌≤◌, ◌⊎◌, List, ◌++◌, length, map, take, slice_index, slice_index_or, slice_range}
use Rattle.load_tree.specs.declared.tree.Node.{Node}

-- nothing was added to its range
abbrev pub no_node : Node
no_node = record { added = 0; most = 0 }

-- the first node
abbrev pub root : List Node → Node
root nodes = slice_index_or nodes 0 no_node

-- the nodes of the left half
abbrev pub left : List Node → List Node
left nodes = slice_range nodes 1 (1 + length nodes / 2)

-- the nodes of the right half
abbrev pub right : List Node → List Node
right nodes = slice_range nodes (1 + length nodes / 2) (length nodes)

-- the loads of the left half
abbrev pub lower : List ℕ → List ℕ
lower loads = take (length loads / 2) loads

-- the loads of the right half
abbrev pub upper : List ℕ → List ℕ
upper loads = slice_range loads (length loads / 2) (length loads)

-- each load is raised by the amount
abbrev pub raised : ℕ → List ℕ → List ℕ
raised amount loads = map (λ load. load + amount) loads

-- the loads of a tree of that height: what is stored, with what was added to each range that has the step
abbrev pub loads_of : ℕ → List Node → List ℕ → List ℕ
loads_of zero nodes loads = raised (root nodes).added loads
loads_of (suc height) nodes loads = raised (root nodes).added (loads_of height (left nodes) (lower loads) ++ loads_of height (right nodes) (upper loads))

-- no load from step `from` to the one before `to` is greater, and one there is equal, or it is 0
pub record IsMostOver (loads : List ℕ) (from to most : ℕ) : Type 0 where
  pub none_above : (t : ℕ) → from ≤ t → t < to → slice_index loads t ≤ most
  pub reached : ((t : ℕ) × (from ≤ t) × (t < to) × (slice_index loads t ≡ most)) ⊎ (most ≡ 0)

-- the same of all loads
abbrev pub IsMost : List ℕ → ℕ → Type 0
IsMost loads most = IsMostOver loads 0 (length loads) most

-- how many nodes a tree of that height has
abbrev pub nodes_of : ℕ → ℕ
nodes_of zero = 1
nodes_of (suc height) = 1 + 2 * nodes_of height

-- each node has the greatest load of its range
abbrev pub IsTree : ℕ → List Node → List ℕ → Type 0
IsTree zero nodes loads = (length nodes ≡ 1) × IsMost (loads_of zero nodes loads) (root nodes).most
IsTree (suc height) nodes loads =
    (length nodes ≡ 1 + 2 * nodes_of height)
    × IsMost (loads_of (suc height) nodes loads) (root nodes).most
    × IsTree height (left nodes) (lower loads)
    × IsTree height (right nodes) (upper loads)
