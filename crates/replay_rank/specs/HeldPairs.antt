-- The objects that an array holds, with their numbers, and the items of a heap that stand for them.
use Rattle.std.specs.Prelude.{◌≡◌, ◌<◌, ◌≤◌, ◌⊎◌, ℕ, ◌+◌, ◌*◌, ◌==◌, ◌&&◌, max, nat_lt, Bool, true, if◌then◌else◌, List, [], ◌∷◌, map, Some, None}
use Rattle.std.specs.declared.cmp.Ordering.{Ordering}
use Rattle.std.specs.declared.option.Option.{Option}
use Rattle.std.specs.BTreeMap.{is_at}
use Rattle.std.specs.BinaryHeap.{IsHeap}
use Rattle.std.specs.List.{list_any}
use Rattle.std.specs.Map.{lookup}
use Rattle.std.specs.Ordering.{nat_cmp}
use Rattle.policy_model.specs.States.{Entry, Apart}
use Rattle.replay_rank.specs.declared.holdings.Held.{Held}

-- the cells of a size above 0, each with its number, if the first has this number
abbrev pub pairs_from : {X : Type 0} → ℕ → List (Held X) → List (ℕ × Held X)
pairs_from object [] = []
pairs_from object (held ∷ rest) = if nat_lt 0 held.size then (object, held) ∷ pairs_from (object + 1) rest else pairs_from (object + 1) rest

-- the size of what may be held of an object
abbrev pub found_size : {X : Type 0} → Option (Held X) → ℕ
found_size None = 0
found_size (Some held) = held.size

-- each object that is held has an item, of a rank and its number, that goes no later than its own rank
abbrev pub Covers : {H R I : Type 0} → (H → R) → (R → R → Bool) → (I → R × ℕ) → List (ℕ × H) → List I → Type 0
Covers rank_of no_later key_of pairs items =
    (object : ℕ) (held : _) → lookup (is_at (nat_cmp object)) pairs ≡ Some held → list_any (λ i. no_later (key_of i).0 (rank_of held) && ((key_of i).1 == object)) items ≡ true

-- no object is there twice, and the items are a heap that covers what is held
pub record StandFor {H R I : Type 0} (entry_of : ℕ × H → Entry) (rank_of : H → R) (no_later : R → R → Bool) (key_of : I → R × ℕ) (item_cmp : I → I → Ordering) (pairs : List (ℕ × H)) (items : List I) : Type 0 where
  pub apart : Apart (map entry_of pairs)
  pub heap : IsHeap item_cmp items
  pub covered : Covers rank_of no_later key_of pairs items

-- there are fewer items than the limit, or no more than objects that are held, and the limit is then twice those at most, or 64
abbrev pub IsThinned : ℕ → ℕ → ℕ → ℕ → Type 0
IsThinned limit next items held = ((items < limit) × (next ≡ limit)) ⊎ ((items ≤ held) × (next ≤ max 64 (2 * held)))
