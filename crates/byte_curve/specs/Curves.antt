-- LRU's hits at each of many capacities.
use Rattle.std.specs.Prelude.{◌≡◌, ℕ, ◌<◌, Bool, List, length, slice_index, slice_index_or}
use Rattle.cache_model.specs.declared.objects.Object.{Object}
use Rattle.byte_curve.specs.declared.pass.Hits.{Hits}
use Rattle.byte_curve.specs.Counts.{no_hits}
use Rattle.byte_curve.specs.Distances.{hits_within, bytes_within}

-- what was found for the capacity at this place
abbrev pub found_at : List Hits → ℕ → Hits
found_at found k = slice_index_or found k no_hits

-- for each capacity the requests that count and have a distance in bytes of at most it, and the bytes of their objects
pub record AreHits (trace : List Object) (fills : List Bool) (warmup : ℕ) (capacities : List ℕ) (found : List Hits) : Type 0 where
  pub places : length found ≡ length capacities
  pub hits : (k : ℕ) → k < length capacities → (found_at found k).hits ≡ hits_within (slice_index capacities k) warmup trace fills
  pub bytes : (k : ℕ) → k < length capacities → (found_at found k).bytes ≡ bytes_within (slice_index capacities k) warmup trace fills
