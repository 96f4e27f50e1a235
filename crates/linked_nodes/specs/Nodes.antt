-- Nodes by number: those of the objects first, and then those of three marks.
use Rattle.std.specs.Prelude.{◌≡◌, ℕ, ◌+◌, ◌-◌, ◌<◌, ◌==◌, nat_lt, false, if◌then◌else◌, List, length, slice_index_or}
use Rattle.linked_nodes.specs.declared.nodes.Node.{Node}

-- the nodes, how many of them are there at most, and how many may be
pub record Noded : Type 0 where
  pub list : List Node
  pub count : ℕ
  pub room : ℕ

-- the node of this number
abbrev pub node_at : List Node → ℕ → Node
node_at nodes k = slice_index_or nodes k (record { before = 0; after = 0; size = 0 })

-- whether the node of this number is there: one that isn't has no node after it
abbrev pub IsThere : List Node → ℕ → Type 0
IsThere nodes k = (k < length nodes) × ((node_at nodes k).after < length nodes)

-- a node that is linked to itself
abbrev pub alone : ℕ → Node
alone k = record { before = k; after = k; size = 0 }

-- one node follows another, and the others are as they were
pub record Joins (old new : List Node) (before after : ℕ) : Type 0 where
  pub nodes_stay : length new ≡ length old
  pub follows : (k : ℕ) → (node_at new k).after ≡ (if k == before then after else (node_at old k).after)
  pub goes_before : (k : ℕ) → (node_at new k).before ≡ (if k == after then before else (node_at old k).before)
  pub sizes_stay : (k : ℕ) → (node_at new k).size ≡ (node_at old k).size

-- the node of an object is there, and of this size, and the others are as they were
pub record Enters (old new : List Node) (object size : ℕ) : Type 0 where
  pub nodes_stay : length new ≡ length old
  pub others_stay : (k : ℕ) → (k == object) ≡ false → node_at new k ≡ node_at old k
  pub there : IsThere new object
  pub size_is : (node_at new object).size ≡ size

-- the others than that of an object are as they were
pub record Leaves (old new : List Node) (object : ℕ) : Type 0 where
  pub nodes_stay : length new ≡ length old
  pub others_stay : (k : ℕ) → (k == object) ≡ false → node_at new k ≡ node_at old k

-- the number of an object, or that of a mark where there are more objects
abbrev pub renumbered : ℕ → ℕ → ℕ → ℕ
renumbered objects more k = if nat_lt k objects then k else k - objects + more

-- there may be more objects, so that the marks have other numbers, and else all is as it was
pub record Grows (old new : List Node) (objects more : ℕ) : Type 0 where
  pub were : length old ≡ objects + 3
  pub are : length new ≡ more + 3
  pub follow : (k : ℕ) → IsThere old k → (node_at new (renumbered objects more k)).after ≡ renumbered objects more (node_at old k).after
  pub go_before : (k : ℕ) → IsThere old k → (node_at old k).before < length old → (node_at new (renumbered objects more k)).before ≡ renumbered objects more (node_at old k).before
  pub sizes_stay : (k : ℕ) → k < length old → (node_at new (renumbered objects more k)).size ≡ (node_at old k).size
