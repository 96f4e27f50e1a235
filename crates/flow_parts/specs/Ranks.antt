-- Finite maps from keys to ranks.
use Rattle.std.specs.Prelude.{◌≡◌, ◌≢◌, ℕ, ◌<◌, ◌⊎◌, List, None, Some, if◌then◌else◌, length, map, min, nat_lt, slice_index_or, zip}
use Rattle.std.specs.declared.option.Option.{Option}
use Rattle.flow_parts.specs.Queues.{Waiting}

-- for each key below some number its rank, or none
abbrev pub Ranks : Type 0
Ranks = List (Option ℕ)

-- the rank of a key, if it has one
abbrev pub rank_at : Ranks → ℕ → Option ℕ
rank_at ranks key = slice_index_or ranks key None

-- the lesser of the rank that a key has, if it has one, and another
abbrev pub lesser : Option ℕ → ℕ → ℕ
lesser None rank = rank
lesser (Some old) rank = min old rank

-- no key has a rank
abbrev pub IsEmpty : Ranks → Type 0
IsEmpty ranks = (key : ℕ) → rank_at ranks key ≡ None

-- only the rank of one key is another
pub record ChangesRank (old new : Ranks) (key : ℕ) (rank : Option ℕ) : Type 0 where
  pub keys : length new ≡ length old
  pub changed : rank_at new key ≡ rank
  pub others : (other : ℕ) → other ≢ key → rank_at new other ≡ rank_at old other

-- the key has that rank, and each other that has a rank has a greater one, or the same and is a greater key
pub record IsFirst (ranks : Ranks) (key rank : ℕ) : Type 0 where
  pub here : rank_at ranks key ≡ Some rank
  pub least : (other more : ℕ) → other ≢ key → rank_at ranks other ≡ Some more → (rank < more) ⊎ ((rank ≡ more) × (key < other))

-- the nodes that wait, each with its distance as its rank
abbrev pub ranks_of : Waiting → List ℕ → Ranks
ranks_of waiting distances = map (λ (place, distance). if nat_lt 0 place then Some distance else None) (zip waiting.places distances)
