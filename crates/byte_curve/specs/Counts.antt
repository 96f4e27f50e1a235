-- What the pass over the requests keeps: the bytes of the latest requests, and the hits found for each capacity.
use Rattle.std.specs.Prelude.{◌≡◌, ℕ, ◌+◌, ◌-◌, ◌*◌, ◌^◌, ◌<◌, ◌≤◌, if◌then◌else◌, Bool, List, [], ◌∷◌, ◌++◌, length, take, replicate, count_by, sum_by, slice_index}
use Rattle.std.specs.List.{list_any, range_with_len}
use Rattle.cache_model.specs.declared.objects.Object.{Object}
use Rattle.cache_model.specs.Claim.{same_object, request_at}
use Rattle.byte_curve.specs.declared.pass.Hits.{Hits}
use Rattle.byte_curve.specs.Distances.{is_counted_hit}

-- the sizes of the requests that are the latest of their objects, and 0 of the others
abbrev pub latest_bytes : List Object → List ℕ
latest_bytes [] = []
latest_bytes (x ∷ xs) = (if list_any (same_object x) xs then 0 else x.size) ∷ latest_bytes xs

-- the same of the first t requests, and 0 of those to come
abbrev pub bytes_at : List Object → ℕ → List ℕ
bytes_at trace t = latest_bytes (take t trace) ++ replicate (length trace - t) 0

abbrev pub no_hits : Hits
no_hits = record { hits = 0; bytes = 0 }

-- hits and more hits
abbrev pub plus : Hits → Hits → Hits
plus some more = record { hits = some.hits + more.hits; bytes = some.bytes + more.bytes }

-- the hits found for the capacities up to this one, summed
abbrev pub hits_to : List Hits → ℕ → ℕ
hits_to found k = sum_by (λ h. h.hits) (take (k + 1) found)

-- their bytes
abbrev pub bytes_to : List Hits → ℕ → ℕ
bytes_to found k = sum_by (λ h. h.bytes) (take (k + 1) found)

-- how many of the first t requests count and have a distance of at most the capacity
abbrev pub hits_before : ℕ → ℕ → List Object → List Bool → ℕ → ℕ
hits_before capacity warmup trace fills t = count_by (is_counted_hit capacity warmup trace fills) (range_with_len 0 t)

-- the sizes of their objects, summed
abbrev pub bytes_before : ℕ → ℕ → List Object → List Bool → ℕ → ℕ
bytes_before capacity warmup trace fills t =
    sum_by (λ u. if is_counted_hit capacity warmup trace fills u then (request_at trace u).size else 0) (range_with_len 0 t)

-- those found up to each capacity are those of the first t requests
pub record AreFound (trace : List Object) (fills : List Bool) (warmup : ℕ) (capacities : List ℕ) (t : ℕ) (found : List Hits) : Type 0 where
  pub places : length found ≡ length capacities
  pub hits : (k : ℕ) → k < length capacities → hits_to found k ≡ hits_before (slice_index capacities k) warmup trace fills t
  pub bytes : (k : ℕ) → k < length capacities → bytes_to found k ≡ bytes_before (slice_index capacities k) warmup trace fills t
  pub few_hits : sum_by (λ h. h.hits) found ≤ t
  pub few_bytes : sum_by (λ h. h.bytes) found ≤ 2 ^ 48 * t
