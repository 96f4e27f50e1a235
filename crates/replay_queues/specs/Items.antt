-- Objects in a queue as pairs of number and size, with a byte for each object.
use Rattle.std.specs.Prelude.{ℕ, ◌==◌, Bool, List, map, slice_index}
use Rattle.std.specs.List.{list_any}
use Rattle.policy_model.specs.States.{Entry, Member}

-- whether the object is one of the pairs
abbrev pub has_item : List (ℕ × ℕ) → ℕ → Bool
has_item items k = list_any (λ p. p.0 == k) items

-- the entries of the pairs, where `entry` makes one of the byte of its object
abbrev pub entries_by : (ℕ → ℕ × ℕ → Entry) → List ℕ → List (ℕ × ℕ) → List Entry
entries_by entry cells items = map (λ p. entry (slice_index cells p.0) p) items

-- the pairs of members
abbrev pub items_of : List Member → List (ℕ × ℕ)
items_of members = map (λ m. (m.object, m.size)) members
