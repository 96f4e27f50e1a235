-- Numbers in a ring that marks among them cut into parts.
use Rattle.std.specs.Prelude.{ℕ, ◌==◌, if◌then◌else◌, List, [], ◌∷◌}
use Rattle.linked_nodes.specs.declared.nodes.Node.{Node}
use Rattle.linked_nodes.specs.Nodes.{node_at, Joins, Leaves}

-- the numbers before a mark
abbrev pub up_to : ℕ → List ℕ → List ℕ
up_to mark [] = []
up_to mark (k ∷ rest) = if k == mark then [] else k ∷ up_to mark rest

-- the numbers after it
abbrev pub past : ℕ → List ℕ → List ℕ
past mark [] = []
past mark (k ∷ rest) = if k == mark then rest else past mark rest

-- the numbers with another put before a mark, or at the end if the mark isn't there
abbrev pub put_in : ℕ → ℕ → List ℕ → List ℕ
put_in mark k [] = k ∷ []
put_in mark k (j ∷ rest) = if j == mark then k ∷ j ∷ rest else j ∷ put_in mark k rest

-- the node after this one, or after the mark if the mark is next
abbrev pub follow : List Node → ℕ → ℕ → ℕ
follow nodes mark k = let next = (node_at nodes k).after in if next == mark then (node_at nodes mark).after else next

-- a node is put between another and the one before that
pub record PutsBefore (old new : List Node) (k next : ℕ) : Type 0 where
  pub mid : List Node
  pub first_join : Joins old mid (node_at old next).before k
  pub second_join : Joins mid new k next

-- a node is taken out from between its neighbours, and away
pub record TakesOut (old new : List Node) (k : ℕ) : Type 0 where
  pub mid : List Node
  pub joins : Joins old mid (node_at old k).before (node_at old k).after
  pub leaves : Leaves mid new k
