-- Request by request: what allowed contents earn by fresh hits on an object is within the prices of its steps and its greatest worth.
use Rattle.std.proofs.Common.{◌≡◌, ℕ, zero, suc, ◌+◌, ◌*◌, ◌/◌, ◌<◌, ◌≤◌, ◌∙◌, refl, ap, Bool, true, false, not, ◌&&◌, cond, nat_le, List, [], ◌∷◌, length, arith, ◌⊎◌, inl, inr, ⊎_elim, get_or, sum_by}
use Rattle.std.specs.List.{range_with_len}
use Rattle.std.proofs.lemmas.Bool.{cases_lt, cases_Bool, both_ways, le-leb}
use Rattle.std.proofs.lemmas.List.Sums.{sum_by-cons}
use Rattle.cache_model.specs.declared.objects.Object.{Object}
use Rattle.cache_model.specs.Claim.{Terms, counts, gain_of, holds, before_request, IsAllowed, only_fills, request_at, same_object}
use Rattle.cache_model.specs.Objects.{numbers_of, objects_of}
use Rattle.cache_model.proofs.Duality.{same_object-refl}
use Rattle.cache_model.proofs.Pairs.{weight_of}
use Rattle.cache_model.proofs.Ranges.{loads_paid, sum_by-times}
use Rattle.cache_model.proofs.Streams.{sum_by-range_last}
use Rattle.cache_model.proofs.Sums.{sum_by-agree}
use Rattle.freshness.specs.Stale.{clock}
use Rattle.ttl_laws.specs.Fresh.{hits_fresh, written_at, is_fresh_hit}
use Rattle.ttl_laws.specs.Runs.{HasOne, Walk, with_request, with_step, walk, greatest_worth, bound_with_ttl}
use Rattle.ttl_laws.specs.Laws.{NoPolicyScoresMoreWithTtl}
use Rattle.ttl_laws.proofs.Starts.{IsEnough, request-top, request-start, step-start}
use Rattle.interval_ends.proofs.Tables.{sum_by-range_le, sum_by-turn}
use Rattle.interval_ends.proofs.Holding.{held-before, held-fits, held-weight}
use Rattle.ttl_laws.proofs.Objects.{sum_by-members, objects-apart, asked-le}

-- the terms of the first n requests, summed
abbrev pub so_far : (ℕ → ℕ) → ℕ → ℕ
so_far f zero = 0
so_far f (suc n) = so_far f n + f n

pub so_far-sum : (f : ℕ → ℕ) (n : ℕ) → so_far f n ≡ sum_by f (range_with_len 0 n)
so_far-sum f zero = refl
so_far-sum f (suc n) = omega (arith, so_far-sum f n, sum_by-range_last f n)

so_far-nothing : (f : ℕ → ℕ) (n : ℕ) → ((t : ℕ) → f t ≡ 0) → so_far f n ≡ 0
so_far-nothing f zero none = refl
so_far-nothing f (suc n) none = omega (arith, so_far-nothing f n none, none n)

-- the sums of the objects, by requests
pub sum_by-so_far : (f : Object → ℕ → ℕ) (xs : List Object) (n : ℕ)
    → sum_by (λ x. so_far (f x) n) xs ≡ sum_by (λ t. sum_by (λ x. f x t) xs) (range_with_len 0 n)
sum_by-so_far f xs n =
    sum_by-agree (λ x. so_far (f x) n) (λ x. sum_by (f x) (range_with_len 0 n)) xs (λ x. so_far-sum (f x) n)
    ∙ sum_by-turn f xs (range_with_len 0 n)

sum_by-below : (f g h : Object → ℕ) (xs : List Object) → ((x : Object) → f x ≤ g x + h x) → sum_by f xs ≤ sum_by g xs + sum_by h xs
sum_by-below f g h [] below = omega arith
sum_by-below f g h (x ∷ xs) below =
    omega (arith, sum_by-below f g h xs below, below x, sum_by-cons f x xs, sum_by-cons g x xs, sum_by-cons h x xs)

-- weights at one price
sum_by-priced : (w : Object → ℕ) (p : ℕ) (xs : List Object) → sum_by (λ x. w x * p) xs ≡ sum_by w xs * p
sum_by-priced w p [] = omega arith
sum_by-priced w p (x ∷ xs) =
    omega (arith, sum_by-priced w p xs, ap (λ n. n * p) (sum_by-cons w x xs), sum_by-cons (λ x. w x * p) x xs)

module _ (terms : Terms) (unit d : ℕ) (trace : List Object) (times prices : List ℕ) (ttl : ℕ)
    (contents : List (List Object)) (allowed : IsAllowed terms.capacity trace contents) where
  -- what is held before request t, and what is known of an object there
  abbrev held : ℕ → List Object
  held t = before_request contents t

  abbrev written : ℕ → Object → ℕ
  written t x = written_at terms.fills trace times ttl contents t x

  abbrev walked : ℕ → Object → Walk
  walked t x = walk terms unit d trace times prices ttl t x

  -- whether a request for x at this place is a fresh hit, what it would earn, and the price of the step after it
  abbrev fresh : ℕ → Object → Bool
  fresh t x = hits_fresh terms.fills times ttl contents t x (written t x)

  abbrev gain : ℕ → Object → ℕ
  gain t x = cond (counts terms t) (d * gain_of terms.objective x) 0

  abbrev price : ℕ → Object → ℕ
  price t x = weight_of unit x * get_or prices t 0

  -- what request t earns of x, and what is paid for x after it
  abbrev pub earned_at : Object → ℕ → ℕ
  earned_at x t = cond (same_object (request_at trace t) x) (cond (fresh t x) (gain t x) 0) 0

  abbrev pub paid_at : Object → ℕ → ℕ
  paid_at x t = cond (holds (held (t + 1)) x) (price t x) 0

  abbrev earned : ℕ → Object → ℕ
  earned n x = so_far (earned_at x) n

  abbrev paid : ℕ → Object → ℕ
  paid n x = so_far (paid_at x) n

  -- what was earned is within what was paid and the greatest worth; and of an object that is held, and what its run from the last write adds
  abbrev IsWithin : ℕ → Object → Type 0
  IsWithin n x =
      (earned n x ≤ paid n x + (walked n x).top)
      × (holds (held n) x ≡ true → HasOne (IsEnough (written n x) (earned n x) (paid n x)) (walked n x).starts)

  step : (t : ℕ) (x : Object) → t < length trace → IsWithin t x → IsWithin (suc t) x
  step t x low was = at (same_object (request_at trace t) x) refl
    where
      next : Bool
      next = holds (held (t + 1)) x

      asked : Walk
      asked = with_request (only_fills terms.fills t) (clock times t) ttl (gain t x) (walked t x)

      now : holds (held (suc t)) x ≡ true → next ≡ true
      now has = let e : t + 1 ≡ suc t = omega arith in ap (λ k. holds (held k) x) e ∙ has

      here : holds (held (suc t)) x ≡ true → paid t x + paid_at x t ≡ paid t x + price t x
      here has = ap (λ b. paid t x + cond b (price t x) 0) (now has)

      at : (b : Bool) → same_object (request_at trace t) x ≡ b
          → (earned t x + cond b (cond (fresh t x) (gain t x) 0) 0 ≤ paid t x + paid_at x t + (cond b asked (walked t x)).top)
          × (holds (held (suc t)) x ≡ true
          → HasOne (IsEnough (cond (b && (next && not (fresh t x))) (clock times t) (written t x))
          (earned t x + cond b (cond (fresh t x) (gain t x) 0) 0) (paid t x + paid_at x t))
          (with_step (price t x) (cond b asked (walked t x))).starts)
      at true e = (
        omega (
          arith,
          request-top (written t x) (earned t x) (paid t x) (holds (held t) x) (only_fills terms.fills t)
              next (clock times t) ttl (gain t x) (walked t x) was.0 was.1,
        ),
        λ has. step-start (cond (next && not (fresh t x)) (clock times t) (written t x))
            (earned t x + cond (fresh t x) (gain t x) 0) (earned t x + cond (fresh t x) (gain t x) 0)
            (paid t x) (paid t x + paid_at x t) (price t x) asked.starts refl (here has)
            (request-start (written t x) (earned t x) (paid t x) (holds (held t) x) (only_fills terms.fills t) next
            (clock times t) ttl (gain t x) (walked t x) was.0 was.1 (now has)),
      )
      at false e = (
        omega (arith, was.0),
        λ has. step-start (written t x) (earned t x) (earned t x + 0) (paid t x) (paid t x + paid_at x t) (price t x)
            (walked t x).starts (omega arith) (here has)
            (was.1 (held-before terms.capacity trace contents allowed t x low e (now has))),
      )

  all_within : (n : ℕ) (x : Object) → n ≤ length trace → IsWithin n x
  all_within zero x low =
      let none : holds (held 0) x ≡ false = ap (λ xs. holds xs x) allowed.empty_at_first in
      (omega arith, λ has. absurd (both_ways (holds (held 0) x) none has))
  all_within (suc n) x low = step n x (omega arith) (all_within n x (omega arith))

  -- an object that doesn't fit earns nothing
  too_large : (x : Object) (t : ℕ) → terms.capacity < x.size → earned_at x t ≡ 0
  too_large x t large =
      ⊎_elim
      (λ (has : holds (held t) x ≡ true).
      absurd (omega (arith, held-fits terms.capacity trace contents allowed t x has, large)))
      (λ (none : holds (held t) x ≡ false).
      ap (λ b. cond (same_object (request_at trace t) x) (cond (b && not (only_fills terms.fills t) && nat_le (clock times t) (written t x + ttl)) (gain t x) 0) 0) none
      ∙ nothing (same_object (request_at trace t) x))
      (cases_Bool (holds (held t) x))
    where
      nothing : (b : Bool) → cond {A = ℕ} b 0 0 ≡ 0
      nothing true = refl
      nothing false = refl

  -- all that was earned of an object
  of_object : (x : Object)
      → earned (length trace) x ≤ paid (length trace) x + greatest_worth terms unit d trace times prices ttl x
  of_object x =
      ⊎_elim
      (λ (fits : x.size ≤ terms.capacity).
      let top : greatest_worth terms unit d trace times prices ttl x ≡ (walked (length trace) x).top
      = ap (λ b. cond b (walked (length trace) x).top 0) (le-leb x.size terms.capacity fits) in
      omega (arith, (all_within (length trace) x (omega arith)).0, top))
      (λ (large : terms.capacity < x.size).
      omega (arith, so_far-nothing (earned_at x) (length trace) (λ t. too_large x t large)))
      (cases_le x.size terms.capacity)
    where
      cases_le : (m n : ℕ) → (m ≤ n) ⊎ (n < m)
      cases_le m n = ⊎_elim (λ (high : n < m). inr high) (λ (low : m ≤ n). inl low) (cases_lt n m)

  abbrev objects : List Object
  objects = objects_of trace

  -- what request t earns is earned of its object
  abbrev pub hit_at : ℕ → ℕ
  hit_at t = cond (is_fresh_hit terms.fills trace times ttl contents t) (gain t (request_at trace t)) 0

  hit-le : (t : ℕ) → t < length trace → hit_at t ≤ sum_by (λ x. earned_at x t) objects
  hit-le t low =
      let own : earned_at (request_at trace t) t ≡ hit_at t
      = ap (λ b. cond b (hit_at t) 0) (same_object-refl (request_at trace t)) in
      omega (arith, own, asked-le trace (λ x. earned_at x t) t low)

  -- what is paid after request t is within the price of the weights that are held
  load : ℕ → ℕ
  load t = sum_by (weight_of unit) (held (t + 1))

  paid-le : (t : ℕ) → sum_by (λ x. paid_at x t) objects ≤ load t * get_or prices t 0
  unfolding load
  paid-le t =
      omega (
        arith,
        sum_by-members (price t) (holds (held (t + 1))) objects (held (t + 1)) (objects-apart trace) (λ x has. has),
        sum_by-priced (weight_of unit) (get_or prices t 0) (held (t + 1)),
      )

  load-le : (t : ℕ) → load t ≤ terms.capacity / unit
  unfolding load
  load-le t = held-weight terms.capacity trace contents allowed unit (t + 1)

  -- all that was earned
  pub hits-le : length prices ≡ length trace
      → sum_by hit_at (numbers_of trace) ≤ bound_with_ttl terms unit d trace times prices ttl
  hits-le same =
      let n : ℕ = length trace in
      omega (
        arith,
        sum_by-range_le hit_at (λ t. sum_by (λ x. earned_at x t) objects) 0 n (λ t low high. hit-le t (omega arith)),
        sum_by-so_far earned_at objects n,
        sum_by-below (earned n) (paid n) (greatest_worth terms unit d trace times prices ttl) objects of_object,
        sum_by-so_far paid_at objects n,
        sum_by-range_le (λ t. sum_by (λ x. paid_at x t) objects) (λ t. load t * get_or prices t 0) 0 n (λ t low high. paid-le t),
        loads_paid (terms.capacity / unit) load prices load-le,
        ap (λ k. sum_by (λ t. load t * get_or prices t 0) (range_with_len 0 k)) same,
      )

-- over the denominator, a score is what the requests earn
score-hits : (d : ℕ) (counted hits : ℕ → Bool) (worth : ℕ → ℕ) (requests : List ℕ)
    → d * sum_by (λ t. cond (counted t && hits t) (worth t) 0) requests
    ≡ sum_by (λ t. cond (hits t) (cond (counted t) (d * worth t) 0) 0) requests
score-hits d counted hits worth requests =
    sum_by-times d (λ t. cond (counted t && hits t) (worth t) 0) requests
    ∙ sum_by-agree (λ t. d * cond (counted t && hits t) (worth t) 0) (λ t. cond (hits t) (cond (counted t) (d * worth t) 0) 0) requests
    (λ t. at (counted t) (hits t) (worth t))
  where
    at : (c h : Bool) (n : ℕ) → d * cond (c && h) n 0 ≡ cond h (cond c (d * n) 0) 0
    at true true n = refl
    at true false n = omega arith
    at false true n = omega arith
    at false false n = omega arith

pub no_policy_scores_more_with_ttl : NoPolicyScoresMoreWithTtl
no_policy_scores_more_with_ttl terms unit d trace times prices ttl contents allowed same =
    omega (
      arith,
      hits-le terms unit d trace times prices ttl contents allowed same,
      score-hits d (counts terms) (is_fresh_hit terms.fills trace times ttl contents)
          (λ t. gain_of terms.objective (request_at trace t)) (numbers_of trace),
    )
