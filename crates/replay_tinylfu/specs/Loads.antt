-- What holds of the ring of W-TinyLFU, and of what is counted beside it.
use Rattle.std.specs.Prelude.{◌≡◌, ℕ, ◌+◌, ◌<◌, ◌≤◌, ◌^◌, ◌==◌, true, false, List, length, slice_index}
use Rattle.policy_model.specs.States.{used}
use Rattle.linked_nodes.specs.declared.nodes.Node.{Node}
use Rattle.linked_nodes.specs.Nodes.{Noded}
use Rattle.replay_queues.specs.Rings.{is_among, Distinct, Links, ring_of}
use Rattle.replay_tinylfu.specs.declared.ring.Load.{Load}
use Rattle.replay_tinylfu.specs.Queues.{entries_at, window_of, main_numbers, probation_of, protected_of}

-- the numbers of the ring but for its first mark
abbrev pub numbers_of : List Node → ℕ → Load → Load → Load → List ℕ
numbers_of nodes none window probation protected = ring_of nodes none (window.entries + probation.entries + protected.entries + 2)

-- the numbers make a ring, are apart, and have both marks in order
pub record IsRing (nodes : List Node) (none : ℕ) (numbers : List ℕ) : Type 0 where
  pub few : none ≤ 2 ^ 31
  pub each_node : length nodes ≡ none + 3
  pub linked : Links nodes none numbers none
  pub apart : Distinct numbers
  pub first_apart : is_among numbers none ≡ false
  pub below : (k : ℕ) → is_among numbers k ≡ true → k < none + 3
  pub second_mark : is_among numbers (none + 1) ≡ true
  pub third_mark : is_among (main_numbers none numbers) (none + 2) ≡ true

-- the bytes tell where each object stands
pub record ArePlaces (places : List ℕ) (window probation protected : List ℕ) : Type 0 where
  pub in_window : (k : ℕ) → (slice_index places k == 1) ≡ is_among window k
  pub on_probation : (k : ℕ) → (slice_index places k == 2) ≡ is_among probation k
  pub is_protected : (k : ℕ) → (slice_index places k == 3) ≡ is_among protected k

-- the entries of these numbers are counted
pub record IsLoad (nodes : List Node) (numbers : List ℕ) (load : Load) : Type 0 where
  pub entries_are : load.entries ≡ length numbers
  pub bytes_are : load.bytes ≡ used (entries_at nodes numbers)

-- all of it
pub record IsKept (nodes : List Node) (places : List ℕ) (none : ℕ) (window probation protected : Load) (numbers : List ℕ) : Type 0 where
  pub ring : IsRing nodes none numbers
  pub each_object : length places ≡ none
  pub places_are : ArePlaces places (window_of none numbers) (probation_of none numbers) (protected_of none numbers)
  pub window_is : IsLoad nodes (window_of none numbers) window
  pub probation_is : IsLoad nodes (probation_of none numbers) probation
  pub protected_is : IsLoad nodes (protected_of none numbers) protected

-- the same of the ring's own numbers, of which each has a node
pub record IsHeld (nodes : Noded) (places : List ℕ) (none : ℕ) (window probation protected : Load) : Type 0 where
  pub kept : IsKept nodes.list places none window probation protected (numbers_of nodes.list none window probation protected)
  pub counted : nodes.count ≤ window.entries + probation.entries + protected.entries + 3
  pub fits : window.entries + probation.entries + protected.entries + 3 ≤ nodes.room
