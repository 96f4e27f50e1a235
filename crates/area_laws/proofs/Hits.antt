-- What hits earn is within the sum over the eligible intervals, each hit by the interval that ends there.
use Rattle.std.proofs.Common.{◌≡◌, ℕ, ◌+◌, ◌<◌, ◌≤◌, ap, Bool, true, false, ◌&&◌, cond, List, [], length, arith, ⊎_elim, sum_by}
use Rattle.std.specs.List.{range_with_len}
use Rattle.std.proofs.lemmas.Bool.{cases_Bool, and_parts}
use Rattle.std.proofs.lemmas.List.Sums.{sum_by-cons}
use Rattle.cache_model.specs.declared.objects.Object.{Object}
use Rattle.cache_model.specs.declared.intervals.Interval.{Interval}
use Rattle.cache_model.specs.Claim.{Terms, counts, holds, total_size, before_request, request_at}
use Rattle.cache_model.specs.Intervals.{interval_of, eligible_intervals}
use Rattle.cache_model.specs.Objects.{IsNext}
use Rattle.cache_model.proofs.Duality.{same_object-true}
use Rattle.cache_model.proofs.Scores.{size-le-total_size}
use Rattle.interval_ends.specs.Ends.{eligible_to}
use Rattle.interval_ends.proofs.Ends.{next_ends_alone, sums_by_ends}
use Rattle.interval_ends.proofs.Tables.{sum_by-range_le}
use Rattle.area_laws.specs.Late.{IsAllowedLate}
use Rattle.area_laws.proofs.Since.{hit-next}

-- whether request t is a hit that counts
abbrev pub earns : Terms → List Object → List (List Object) → ℕ → Bool
earns terms trace contents t = counts terms t && holds (before_request contents t) (request_at trace t)

module _ (f : Interval → ℕ) (terms : Terms) (trace : List Object) where
  -- if what a hit earns is within what its interval adds, what all hits earn is within the sum
  pub hits-le : (delay : ℕ) (contents : List (List Object)) (value : ℕ → ℕ)
      → IsAllowedLate delay terms.capacity trace contents
      → ((u t : ℕ) → IsNext trace u t → value t ≤ f (interval_of terms.objective trace u t))
      → sum_by (λ t. cond (earns terms trace contents t) (value t) 0) (range_with_len 0 (length trace))
      ≤ sum_by f (eligible_intervals terms trace)
  hits-le delay contents value allowed within_interval =
      let n : ℕ = length trace in
      let by_end : ℕ → ℕ = λ t. sum_by f (eligible_to terms trace t) in
      let earned : ℕ → ℕ = λ t. cond (earns terms trace contents t) (value t) 0 in
      let most : sum_by earned (range_with_len 0 n) ≤ sum_by by_end (range_with_len 0 n) =
      sum_by-range_le earned by_end 0 n (λ t low high. each t (omega arith)) in
      omega (arith, most, sums_by_ends f terms trace)
    where
      each : (t : ℕ) → t < length trace
          → cond (earns terms trace contents t) (value t) 0 ≤ sum_by f (eligible_to terms trace t)
      each t within =
          let held : List Object = before_request contents t in
          ⊎_elim
          (λ (hit : earns terms trace contents t ≡ true).
          let parts : (counts terms t ≡ true) × (holds held (request_at trace t) ≡ true) = and_parts _ _ hit in
          let found : (u : ℕ) × IsNext trace u t =
          hit-next delay terms.capacity trace contents allowed t within parts.1 in
          let next : IsNext trace found.0 t = found.1 in
          let same : request_at trace found.0 ≡ request_at trace t =
          same_object-true (request_at trace found.0) (request_at trace t) next.same in
          let many : length contents ≡ length trace + 1 = allowed.one_more_than_requests in
          let room : total_size held ≤ terms.capacity = allowed.within_capacity t [] (omega arith) in
          let fits : (request_at trace found.0).size ≤ terms.capacity =
          omega (arith, size-le-total_size held (request_at trace t) parts.1, ap (λ (x : Object). x.size) same) in
          omega (
            arith,
            ap (λ b. cond b (value t) 0) hit,
            within_interval found.0 t next,
            ap (sum_by f) (next_ends_alone terms trace found.0 t next fits parts.0),
            sum_by-cons f (interval_of terms.objective trace found.0 t) [],
          ))
          (λ (miss : earns terms trace contents t ≡ false). omega (arith, ap (λ b. cond b (value t) 0) miss))
          (cases_Bool (earns terms trace contents t))
