-- What the pass over the requests keeps: the marks, and how many requests have each stack distance.
use Rattle.std.specs.Prelude.{◌≡◌, ℕ, ◌+◌, ◌-◌, ◌<◌, Bool, false, not, List, [], ◌∷◌, ◌++◌, length, take, replicate, count_by, sum_by, slice_index}
use Rattle.std.specs.List.{list_any, range_with_len}
use Rattle.cache_model.specs.declared.objects.Object.{Object}
use Rattle.cache_model.specs.Claim.{same_object}
use Rattle.cache_model.specs.Objects.{objects_of}
use Rattle.stack_curve.specs.Distances.{counted_distance, is_within, curve_hits}

-- which requests are the latest of their objects
abbrev pub latest_of : List Object → List Bool
latest_of [] = []
latest_of (x ∷ xs) = not (list_any (same_object x) xs) ∷ latest_of xs

-- after t requests those marked are the latest of their objects
abbrev pub marks_at : List Object → ℕ → List Bool
marks_at trace t = latest_of (take t trace) ++ replicate (length trace - t) false

-- the hits of the curve among the first t requests
abbrev pub hits_before : List Object → List Bool → ℕ → ℕ → ℕ
hits_before trace fills slots t = count_by (λ u. is_within slots (counted_distance trace fills u)) (range_with_len 0 t)

-- the counts up to the one of this number, summed
abbrev pub sum_to : List ℕ → ℕ → ℕ
sum_to counts k = sum_by (λ count. count) (take (k + 1) counts)

-- how many of the first t requests count and have each stack distance
pub record AreCounts (trace : List Object) (fills : List Bool) (t : ℕ) (counts : List ℕ) : Type 0 where
  pub places : length counts ≡ length (objects_of trace) + 1
  pub sums : (k : ℕ) → k < length counts → sum_to counts k ≡ hits_before trace fills k t

-- the hits of the curve at each number of slots up to the number of objects
pub record AreHits (trace : List Object) (fills : List Bool) (hits : List ℕ) : Type 0 where
  pub places : length hits ≡ length (objects_of trace) + 1
  pub each : (k : ℕ) → k < length hits → slice_index hits k ≡ curve_hits trace fills k
