-- What the contents hold, times how long ago it was asked for: each request adds no more than the capacity.
use Rattle.std.proofs.Common.{◌≡◌, ℕ, zero, suc, ◌+◌, ◌-◌, ◌*◌, ◌<◌, ◌≤◌, ◌∙◌, ap, Bool, true, false, cond, List, [], ◌∷◌, length, arith, ⊎_elim, Contains, sum_by, get_or}
use Rattle.std.specs.List.{AllByRecursion, IsDistinct, range_with_len}
use Rattle.std.proofs.Math.Nat.{mul-le-mul_left}
use Rattle.std.proofs.lemmas.Bool.{cases_Bool}
use Rattle.std.proofs.lemmas.List.Elements.{Contains-get_or, recursion_from_All}
use Rattle.std.proofs.lemmas.List.Sums.{sum_by-cons}
use Rattle.std.proofs.lemmas.Map.Made.{IsDistinct-from_AllPairs}
use Rattle.cache_model.specs.declared.objects.Object.{Object}
use Rattle.cache_model.specs.Claim.{same_object, holds, total_size, before_request, request_at}
use Rattle.cache_model.proofs.Duality.{same_object-true, without, holds-without, sum_by-without, sum_by-without-le}
use Rattle.cache_model.proofs.Pairs.{same_object-sym}
use Rattle.cache_model.proofs.Steps.{same_object-from, holds-from_Contains}
use Rattle.cache_model.proofs.Streams.{sum_by-range_last}
use Rattle.area_laws.specs.Late.{IsAskedLately, IsAllowedLate}
use Rattle.area_laws.proofs.Since.{since, since-same, since-other, since-lately, entered}

-- two lists of different objects: what a member brings beyond s is g of an object of the other list
sum_by-shared_le : (f s g : Object → ℕ) (xs ys : List Object) → IsDistinct same_object xs
    → AllByRecursion (λ x. f x ≤ s x + cond (holds ys x) (g x) 0) xs → sum_by f xs ≤ sum_by s xs + sum_by g ys
unfolding IsDistinct
sum_by-shared_le f s g [] ys apart each = omega arith
sum_by-shared_le f s g (x ∷ xs) ys apart each =
    ⊎_elim
    (λ (shared : holds ys x ≡ true).
    omega (
      arith,
      each.0,
      ap (λ b. cond b (g x) 0) shared,
      sum_by-cons f x xs,
      sum_by-cons s x xs,
      sum_by-without g x ys shared,
      sum_by-shared_le f s g xs (without x ys) apart.1 (others xs apart.0 each.1),
    ))
    (λ (own : holds ys x ≡ false).
    omega (
      arith,
      each.0,
      ap (λ b. cond b (g x) 0) own,
      sum_by-cons f x xs,
      sum_by-cons s x xs,
      sum_by-shared_le f s g xs ys apart.1 each.1,
    ))
    (cases_Bool (holds ys x))
  where
    others : (zs : List Object) → AllByRecursion (λ y. same_object x y ≡ false) zs
        → AllByRecursion (λ z. f z ≤ s z + cond (holds ys z) (g z) 0) zs
        → AllByRecursion (λ z. f z ≤ s z + cond (holds (without x ys) z) (g z) 0) zs
    others [] a b = tt
    others (z ∷ zs) a b = (
      ⊎_elim
          (λ (shared : holds ys z ≡ true).
          omega (arith, b.0, ap (λ c. cond c (g z) 0) shared, ap (λ c. cond c (g z) 0) (holds-without x z ys a.0 shared)))
          (λ (own : holds ys z ≡ false). omega (arith, b.0, ap (λ c. cond c (g z) 0) own))
          (cases_Bool (holds ys z)),
      others zs a.1 b.1,
    )

-- the size of an object times the requests since it was asked for, less the delay
abbrev pub stored : ℕ → List Object → ℕ → Object → ℕ
stored delay trace t x = x.size * (since trace t x - delay)

-- the same of the object of request t, if it is a hit
abbrev pub hit_area : ℕ → List Object → List (List Object) → ℕ → ℕ
hit_area delay trace contents t =
    cond (holds (before_request contents t) (request_at trace t)) (stored delay trace t (request_at trace t)) 0

-- a hit and the others
hit_area-without : (delay : ℕ) (trace : List Object) (contents : List (List Object)) (t : ℕ)
    → hit_area delay trace contents t + sum_by (stored delay trace t) (without (request_at trace t) (before_request contents t))
    ≤ sum_by (stored delay trace t) (before_request contents t)
hit_area-without delay trace contents t =
    let r : Object = request_at trace t in
    let held : List Object = before_request contents t in
    let value : Bool → ℕ = λ b. cond b (stored delay trace t r) 0 in
    ⊎_elim
    (λ (hit : holds held r ≡ true). omega (arith, ap value hit, sum_by-without (stored delay trace t) r held hit))
    (λ (miss : holds held r ≡ false). omega (arith, ap value miss, sum_by-without-le (stored delay trace t) r held))
    (cases_Bool (holds held r))

-- one step more
stored-more : (size n delay k : ℕ) → n ≤ suc k → size * (n - delay) ≤ size + size * (k - delay)
stored-more size n delay k h =
    let more : size * (n - delay) ≤ size * (1 + (k - delay)) = mul-le-mul_left size (omega arith) in omega arith

-- a first step
stored-one : (size n delay : ℕ) → n ≤ delay + 1 → size * (n - delay) ≤ size
stored-one size n delay h = let most : size * (n - delay) ≤ size * 1 = mul-le-mul_left size (omega arith) in omega arith

module _ (delay capacity : ℕ) (trace : List Object) (contents : List (List Object))
    (allowed : IsAllowedLate delay capacity trace contents) where
  -- an object that is held after request t
  stored-next : (t : ℕ) → t < length trace → (x : Object) → Contains (before_request contents (suc t)) x
      → stored delay trace (suc t) x
      ≤ x.size + cond (holds (without (request_at trace t) (before_request contents t)) x) (stored delay trace t x) 0
  stored-next t within x m =
      let r : Object = request_at trace t in
      let held : List Object = before_request contents t in
      let value : Bool → ℕ = λ b. cond b (stored delay trace t x) 0 in
      ⊎_elim
      (λ (same : same_object x r ≡ true).
      let one : stored delay trace (suc t) x ≤ x.size =
      stored-one x.size (since trace (suc t) x) delay (omega (arith, since-same trace t x same)) in
      omega arith)
      (λ (other : same_object x r ≡ false).
      ⊎_elim
      (λ (was_held : Contains held x).
      let there : value (holds (without r held) x) ≡ stored delay trace t x =
      ap value (holds-without r x held (same_object-sym r x ∙ other) (holds-from_Contains held x was_held)) in
      let more : stored delay trace (suc t) x ≤ x.size + stored delay trace t x =
      stored-more x.size (since trace (suc t) x) delay (since trace t x) (omega (arith, since-other trace t x other)) in
      omega arith)
      (λ (lately : IsAskedLately delay trace t x).
      let one : stored delay trace (suc t) x ≤ x.size =
      stored-one x.size (since trace (suc t) x) delay (since-lately delay trace t x within lately) in
      omega arith)
      (entered delay capacity trace contents allowed t within x m))
      (cases_Bool (same_object x r))

  -- all of them, and the area of the hit
  stored-step : (t : ℕ) → t < length trace
      → hit_area delay trace contents t + sum_by (stored delay trace (suc t)) (before_request contents (suc t))
      ≤ sum_by (stored delay trace t) (before_request contents t) + capacity
  stored-step t within =
      let r : Object = request_at trace t in
      let held : List Object = before_request contents t in
      let next : List Object = before_request contents (suc t) in
      let many : length contents ≡ length trace + 1 = allowed.one_more_than_requests in
      let fits : total_size next ≤ capacity = allowed.within_capacity (suc t) [] (omega arith) in
      let apart : IsDistinct same_object next =
      IsDistinct-from_AllPairs (λ a b. (same_object-true a b, same_object-from a b)) next
      (allowed.without_repeats (suc t) [] (omega arith)) in
      let shared : sum_by (stored delay trace (suc t)) next ≤ total_size next + sum_by (stored delay trace t) (without r held) =
      sum_by-shared_le (stored delay trace (suc t)) (λ x. x.size) (stored delay trace t) next (without r held) apart
      (recursion_from_All _ next (λ i z low. stored-next t within (get_or next i z) (Contains-get_or next i z low))) in
      omega (arith, hit_area-without delay trace contents t)

  -- so far
  hit_areas-so_far : (t : ℕ) → t ≤ length trace
      → sum_by (hit_area delay trace contents) (range_with_len 0 t) + sum_by (stored delay trace t) (before_request contents t)
      ≤ capacity * t
  hit_areas-so_far zero within = omega (arith, ap (λ xs. sum_by (stored delay trace 0) xs) allowed.empty_at_first)
  hit_areas-so_far (suc t) within =
      omega (
        arith,
        sum_by-range_last (hit_area delay trace contents) t,
        hit_areas-so_far t (omega arith),
        stored-step t (omega arith),
      )

  -- the areas of all hits are within that of the cache
  pub hit_areas-le : (n : ℕ) → n ≤ length trace
      → sum_by (hit_area delay trace contents) (range_with_len 0 n) ≤ capacity * (n - 1)
  hit_areas-le zero within = omega arith
  hit_areas-le (suc t) within =
      let e : suc t - 1 ≡ t = omega arith in
      omega (
        arith,
        ap (λ k. capacity * k) e,
        sum_by-range_last (hit_area delay trace contents) t,
        hit_area-without delay trace contents t,
        hit_areas-so_far t (omega arith),
      )
