-- Counts that are halved when they are looked at again.
use Rattle.std.specs.Prelude.{◌≡◌, ℕ, ◌-◌, ◌/◌, ◌≤◌, ◌^◌, List, [], length, map, slice_index}
use Rattle.std.specs.List.{range_with_len}
use Rattle.policy_model.specs.WTinyLfu.{Frequencies}

-- the frequencies, and a number above that of each object that may be asked for
pub record Counted : Type 0 where
  pub objects : ℕ
  pub frequencies : Frequencies

-- the count of an object, through the halvings since it was last asked for
abbrev pub count_at : List ℕ → List ℕ → ℕ → ℕ → ℕ
count_at counts seen halvings k = slice_index counts k / 2 ^ (halvings - slice_index seen k)

-- the counts of all that were asked for
abbrev pub counts_at : List ℕ → List ℕ → ℕ → ℕ → List ℕ
counts_at counts seen known halvings = map (count_at counts seen halvings) (range_with_len 0 known)

abbrev pub frequencies_at : List ℕ → List ℕ → ℕ → ℕ → ℕ → Frequencies
frequencies_at counts seen known halvings asked = record { counts = counts_at counts seen known halvings; asked = asked }

abbrev pub no_counts : ℕ → Counted
no_counts objects = record { objects = objects; frequencies = record { counts = []; asked = 0 } }

-- with other frequencies
abbrev pub with_frequencies : Frequencies → Counted → Counted
with_frequencies f c = record { objects = c.objects; frequencies = f }

-- halved
abbrev pub halve : Frequencies → Frequencies
halve f = record { counts = map (λ count. count / 2) f.counts; asked = f.asked / 2 }

-- what is kept of each object: its count is 0 if it wasn't asked for
pub record AreCounts (counts seen : List ℕ) (known halvings : ℕ) : Type 0 where
  pub each_seen : length seen ≡ length counts
  pub within : known ≤ length counts
  pub few : length counts ≤ 2 ^ 31
  pub small : (k : ℕ) → slice_index counts k ≤ 15
  pub past : (k : ℕ) → slice_index seen k ≤ halvings
  pub unknown : (k : ℕ) → known ≤ k → slice_index counts k ≡ 0

-- each count has seen all halvings, and none is left to see
pub record AreSettled (counts seen counts_after seen_after : List ℕ) (halvings : ℕ) : Type 0 where
  pub counts_stay : length counts_after ≡ length counts
  pub seen_stay : length seen_after ≡ length seen
  pub counts_are : (k : ℕ) → slice_index counts_after k ≡ count_at counts seen halvings k
  pub seen_are : (k : ℕ) → slice_index seen_after k ≡ 0
