-- Nodes as they stand in slots: those of the marks first, and then those of the objects.
use Rattle.std.specs.Prelude.{◌≡◌, ℕ, ◌+◌, ◌-◌, ◌≤◌, ◌^◌, ◌++◌, nat_lt, if◌then◌else◌, List, drop, length, map, take}
use Rattle.sparse_list.specs.Slots.{Slots}
use Rattle.linked_nodes.specs.declared.nodes.Node.{Node}

-- the slot of a number
abbrev pub slot_of : ℕ → ℕ → ℕ
slot_of objects k = if nat_lt k objects then k + 3 else k - objects

-- the number of what stands in a slot, and the same past the last
abbrev pub number_at : ℕ → ℕ → ℕ
number_at objects slot = if nat_lt slot 3 then objects + slot else if nat_lt slot (objects + 3) then slot - 3 else slot

-- a node whose neighbours are named by their numbers, in place of their slots
abbrev pub shown : ℕ → Node → Node
shown objects n = record { before = number_at objects n.before; after = number_at objects n.after; size = n.size }

-- the nodes by number
abbrev pub nodes_by : ℕ → List Node → List Node
nodes_by objects slots = map (shown objects) (drop 3 slots ++ take 3 slots)

-- what stands in a slot without a node
abbrev pub no_node : Node
no_node = record { before = 4294967295; after = 4294967295; size = 0 }

-- there is a slot for each object and each mark
pub record AreSlotted (objects : ℕ) (s : Slots Node) : Type 0 where
  pub vacant : s.none ≡ no_node
  pub each : length s.items ≡ objects + 3
  pub few : objects ≤ 2 ^ 31
