-- Marks on places, whose sums stand in the nodes of a tree.
use Rattle.std.specs.Prelude.{◌==◌, ℕ, Bool, List, map, drop}

-- a place is marked where its leaf is 1
abbrev pub marks_of : ℕ → List ℕ → List Bool
marks_of places sums = map (λ leaf. leaf == 1) (drop places sums)
