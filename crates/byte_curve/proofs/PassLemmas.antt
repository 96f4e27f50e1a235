-- What the pass does at one request.
use Rattle.std.proofs.Common.{◌≡◌, ℕ, ◌+◌, ◌^◌, ◌<◌, ◌≤◌, ◌∙◌, sym, ap, Bool, true, false, leb, ltb, List, length, take, set, get_or, max, arith, sum, All}
use Rattle.std.specs.Prelude.{slice_range}
use Rattle.std.specs.List.Sorted.{IsPartitionPoint}
use Rattle.std.proofs.lemmas.Bool.{lt-leb, ltb-true, ltb-false}
use Rattle.std.proofs.lemmas.List.Elements.{All-get_or}
use Rattle.std.proofs.lemmas.List.Sums.{fold_more}
use Rattle.cache_model.specs.declared.objects.Object.{Object}
use Rattle.cache_model.specs.Claim.{counts_past, request_at, no_object}
use Rattle.cache_model.specs.Objects.{IsFirst, IsNext}
use Rattle.byte_curve.specs.declared.pass.Hits.{Hits}
use Rattle.byte_curve.specs.Counts.{AreFound, bytes_at, no_hits, plus}
use Rattle.byte_curve.specs.Distances.{is_hit}
use Rattle.byte_curve.specs.Sizes.{greatest_size}
use Rattle.byte_curve.proofs.LatestBytes.{hit-first, hit-next}
use Rattle.byte_curve.proofs.FoundLemmas.{found-none, found-some, hits-from, hits-missed}

-- one more request may be the greatest
pub greatest-more : (trace : List Object) (t : ℕ) → t < length trace → greatest_size (take (t + 1) trace) ≡ max (greatest_size (take t trace)) (request_at trace t).size
greatest-more trace t within = fold_more (λ (most : ℕ) (x : Object). max most x.size) 0 trace t no_object within

-- the first capacity that is at least a distance
pub point-below : (capacities : List ℕ) (distance place : ℕ) → IsPartitionPoint (λ c. ltb c distance ≡ true) (λ c. ltb c distance ≡ false) capacities place
    → (k : ℕ) → k < place → get_or capacities k 0 < distance
point-below capacities distance place point k low = ltb-true (get_or capacities k 0) distance (point.0 k 0 (omega arith) low)

pub point-above : (capacities : List ℕ) (distance place : ℕ) → IsPartitionPoint (λ c. ltb c distance ≡ true) (λ c. ltb c distance ≡ false) capacities place
    → (k : ℕ) → place ≤ k → k < length capacities → distance ≤ get_or capacities k 0
point-above capacities distance place point k high within = ltb-false (get_or capacities k 0) distance (point.1 k 0 high within)

module _ (trace : List Object) (fills : List Bool) (warmup : ℕ) (capacities : List ℕ) (t : ℕ) (within : t < length trace) where
  -- a request of a new object
  pub found-first : (found : List Hits) → IsFirst trace t → AreFound trace fills warmup capacities t found → AreFound trace fills warmup capacities (t + 1) found
  found-first found first = found-none trace fills warmup capacities t found (hits-missed trace fills warmup capacities t (λ k low. hit-first trace t within (get_or capacities k 0) first))

  module _ (last : ℕ) (next : IsNext trace last t) (latest : List ℕ) (distance : ℕ) (is_latest : latest ≡ bytes_at trace t) (is_distance : distance ≡ sum (slice_range latest last t)) (large : All (λ c. greatest_size trace ≤ c) capacities) where
    hit-at : (k : ℕ) → k < length capacities → is_hit (get_or capacities k 0) trace t ≡ leb distance (get_or capacities k 0)
    hit-at k low =
        hit-next trace t within last next (get_or capacities k 0) (All-get_or (λ c. greatest_size trace ≤ c) capacities k 0 low large)
        ∙ ap (λ d. leb d (get_or capacities k 0)) (sym (is_distance ∙ ap (λ bytes. sum (slice_range bytes last t)) is_latest))

    -- a request that is farther than every capacity
    pub found-far : (found : List Hits) (place : ℕ) → length capacities ≤ place → ((k : ℕ) → k < place → get_or capacities k 0 < distance)
        → AreFound trace fills warmup capacities t found → AreFound trace fills warmup capacities (t + 1) found
    found-far found place far below =
        found-none trace fills warmup capacities t found
        (hits-missed trace fills warmup capacities t (λ k low. hit-at k low ∙ lt-leb distance (get_or capacities k 0) (below k (omega arith))))

    -- a request that is a hit
    pub found-hit : (found : List Hits) (place size : ℕ) (new : Hits) → place < length capacities → size ≡ (request_at trace t).size → size ≤ 2 ^ 48
        → new ≡ plus (get_or found place no_hits) (record { hits = 1; bytes = size })
        → counts_past warmup fills t ≡ true
        → ((k : ℕ) → k < place → get_or capacities k 0 < distance)
        → ((k : ℕ) → place ≤ k → k < length capacities → distance ≤ get_or capacities k 0)
        → AreFound trace fills warmup capacities t found → AreFound trace fills warmup capacities (t + 1) (set found place new)
    found-hit found place size new inside own small more counts below above =
        found-some trace fills warmup capacities t found place size new inside own small more (hits-from trace fills warmup capacities t place distance counts hit-at below above)
