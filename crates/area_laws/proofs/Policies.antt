-- No contents that are allowed with a delay score more than the bound of any edge, nor than the gains of all intervals.
use Rattle.std.proofs.Common.{◌≡◌, ℕ, ◌+◌, ◌-◌, ◌*◌, ◌≤◌, ◌∙◌, sym, ap, Bool, true, false, cond, List, length, arith, ⊎_elim}
use Rattle.std.specs.List.{range_with_len}
use Rattle.std.proofs.Math.Nat.{mul-le-mul_left}
use Rattle.std.proofs.lemmas.Bool.{cases_Bool, and_parts}
use Rattle.std.proofs.lemmas.Nat.{le-div}
use Rattle.cache_model.specs.declared.objects.Object.{Object}
use Rattle.cache_model.specs.declared.intervals.Interval.{Interval}
use Rattle.cache_model.specs.Claim.{Terms, counts, same_object, holds, gain_of, before_request, request_at, score}
use Rattle.cache_model.specs.Intervals.{interval_of}
use Rattle.cache_model.specs.Objects.{IsNext}
use Rattle.cache_model.proofs.Duality.{same_object-true}
use Rattle.cache_model.proofs.Ranges.{sum_by-add, sum_by-times}
use Rattle.area_laws.specs.Late.{IsAllowedLate}
use Rattle.area_laws.specs.Areas.{area_of, area_surplus, edge_bound}
use Rattle.area_laws.specs.Laws.{AreasBoundEveryPolicy, GainsBoundEveryPolicy}
use Rattle.area_laws.proofs.Since.{since, since-ge}
use Rattle.area_laws.proofs.Held.{stored, hit_area, hit_areas-le}
use Rattle.area_laws.proofs.Hits.{earns, hits-le}
use Rattle.interval_ends.proofs.Tables.{sum_by-range_le}

module _ (terms : Terms) (delay edge : ℕ) (trace : List Object) (contents : List (List Object)) where
  -- what a hit at request t earns
  abbrev gain_at : ℕ → ℕ
  gain_at t = gain_of terms.objective (request_at trace t)

  -- what it is worth beyond its area
  abbrev beyond : ℕ → ℕ
  beyond t = edge * gain_of terms.objective (request_at trace t) - stored delay trace t (request_at trace t)

  -- the object of an interval is stored for at least its length
  area-le : (u t : ℕ) → IsNext trace u t
      → area_of delay (interval_of terms.objective trace u t) ≤ stored delay trace t (request_at trace t)
  area-le u t next =
      let x : Object = request_at trace t in
      let same : request_at trace u ≡ x = same_object-true (request_at trace u) x next.same in
      let ago : t - u ≤ since trace t x =
      since-ge trace x u t (λ k low high. ap (λ y. same_object y (request_at trace k)) (sym same) ∙ next.others k low high) in
      let longer : x.size * (t - u - delay) ≤ x.size * (since trace t x - delay) = mul-le-mul_left x.size (omega arith) in
      omega (arith, longer, ap (λ (y : Object). y.size * (t - u - delay)) same)

  -- a hit takes its area, and what it is worth beyond that
  hit-le : (t : ℕ) → edge * cond (earns terms trace contents t) (gain_at t) 0
      ≤ hit_area delay trace contents t + cond (earns terms trace contents t) (beyond t) 0
  hit-le t =
      let x : Object = request_at trace t in
      let area : Bool → ℕ = λ b. cond b (stored delay trace t x) 0 in
      ⊎_elim
      (λ (hit : earns terms trace contents t ≡ true).
      let held : holds (before_request contents t) x ≡ true =
      (and_parts (counts terms t) (holds (before_request contents t) x) hit).1 in
      omega (arith, ap (λ b. edge * cond b (gain_at t) 0) hit, ap (λ b. cond b (beyond t) 0) hit, ap area held))
      (λ (miss : earns terms trace contents t ≡ false). omega (arith, ap (λ b. edge * cond b (gain_at t) 0) miss))
      (cases_Bool (earns terms trace contents t))

  score-le : IsAllowedLate delay terms.capacity trace contents
      → edge * score terms trace contents ≤ edge_bound terms delay edge trace
  score-le allowed =
      let requests : List ℕ = range_with_len 0 (length trace) in
      let earned : ℕ → ℕ = λ t. cond (earns terms trace contents t) (gain_at t) 0 in
      let extra : ℕ → ℕ = λ t. cond (earns terms trace contents t) (beyond t) 0 in
      let both : ℕ → ℕ = λ t. hit_area delay trace contents t + extra t in
      omega (
        arith,
        sum_by-times edge earned requests,
        sum_by-range_le (λ t. edge * earned t) both 0 (length trace) (λ t low high. hit-le t),
        sum_by-add (hit_area delay trace contents) extra requests,
        hit_areas-le delay terms.capacity trace contents allowed (length trace) (omega arith),
        hits-le (area_surplus delay edge) terms trace delay contents beyond allowed
            (λ u t next. omega (arith, area-le u t next)),
      )

pub areas_bound_every_policy : AreasBoundEveryPolicy
areas_bound_every_policy terms delay edge trace contents allowed =
    let most : edge * score terms trace contents ≤ edge_bound terms delay edge trace =
    score-le terms delay edge trace contents allowed in
    record {
      over_the_edge = most;
      floor = λ positive.
          le-div (score terms trace contents) (edge_bound terms delay edge trace) edge positive (omega arith);
    }

pub gains_bound_every_policy : GainsBoundEveryPolicy
gains_bound_every_policy terms delay trace contents allowed =
    hits-le (λ (i : Interval). i.gain) terms trace delay contents (λ t. gain_of terms.objective (request_at trace t)) allowed
    (λ u t next. omega arith)
