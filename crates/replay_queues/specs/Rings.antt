-- A ring of numbers that are linked both ways, through a node that is none of them.
use Rattle.std.specs.Prelude.{◌≡◌, ℕ, zero, suc, ◌+◌, ◌<◌, ◌≤◌, ◌^◌, ◌==◌, Bool, true, false, List, [], ◌∷◌, map, length}
use Rattle.std.specs.List.{list_any}
use Rattle.policy_model.specs.States.{Member, member}
use Rattle.linked_nodes.specs.declared.nodes.Node.{Node}
use Rattle.linked_nodes.specs.Nodes.{Noded, node_at}

-- whether the number is one of these
abbrev pub is_among : List ℕ → ℕ → Bool
is_among numbers k = list_any (λ j. j == k) numbers

-- no number is there twice
abbrev pub Distinct : List ℕ → Type 0
Distinct [] = Unit {0}
Distinct (k ∷ rest) = (is_among rest k ≡ false) × Distinct rest

-- from `first` over these numbers to `last`, one goes after another both ways
abbrev pub Links : List Node → ℕ → List ℕ → ℕ → Type 0
Links nodes first [] last = ((node_at nodes first).after ≡ last) × ((node_at nodes last).before ≡ first)
Links nodes first (k ∷ rest) last = ((node_at nodes first).after ≡ k) × ((node_at nodes k).before ≡ first) × Links nodes k rest last

-- this many numbers, each after the one before it
abbrev pub walk : List Node → ℕ → ℕ → List ℕ
walk nodes zero k = []
walk nodes (suc count) k = k ∷ walk nodes count (node_at nodes k).after

-- the numbers of a ring whose node of none is this one
abbrev pub ring_of : List Node → ℕ → ℕ → List ℕ
ring_of nodes none count = walk nodes count (node_at nodes none).after

abbrev pub members_at : List Node → List ℕ → List Member
members_at nodes numbers = map (λ k. member k (node_at nodes k).size) numbers

abbrev pub ring_members : List Node → ℕ → ℕ → List Member
ring_members nodes none count = members_at nodes (ring_of nodes none count)

-- the numbers make a ring, are apart and below that of its node of none
pub record IsRing (nodes : List Node) (none count : ℕ) : Type 0 where
  pub each_node : length nodes ≡ none + 3
  pub linked : Links nodes none (ring_of nodes none count) none
  pub apart : Distinct (ring_of nodes none count)
  pub below : (k : ℕ) → is_among (ring_of nodes none count) k ≡ true → k < none

-- the same of nodes among which there are three marks, and no others than those of the ring
pub record IsLine (nodes : Noded) (none count : ℕ) : Type 0 where
  pub ring : IsRing nodes.list none count
  pub few : none ≤ 2 ^ 31
  pub counted : nodes.count ≤ count + 3
  pub fits : count + 3 ≤ nodes.room
