-- One more request of the pass: the bytes of the latest requests, and the distance in bytes that they tell.
use Rattle.std.proofs.Common.{◌≡◌, ℕ, zero, suc, ◌+◌, ◌-◌, ◌<◌, ◌≤◌, ◌∙◌, sym, refl, ap, ⊎_elim, Bool, true, false, ◌&&◌, ◌||◌, cond, leb, List, [], ◌∷◌, ◌++◌, length, take, drop, set, replicate, filter, arith, append_assoc, Some, None, sum}
use Rattle.std.specs.List.{AllByRecursion}
use Rattle.std.specs.Prelude.{slice_range}
use Rattle.std.proofs.lemmas.Bool.{cases_Bool, or_parts, and_right, le-leb}
use Rattle.std.proofs.lemmas.List.{length-append, length-drop, length-replicate, length-set, length-take-le, take_more, take_at, drop-append-le, set_at, set-append_left}
use Rattle.std.proofs.lemmas.List.Sums.{sum_by-cons}
use Rattle.cache_model.specs.declared.objects.Object.{Object}
use Rattle.cache_model.specs.Claim.{same_object, request_at, no_object}
use Rattle.cache_model.specs.Objects.{IsFirst, IsNext}
use Rattle.cache_model.proofs.Duality.{same_object-true}
use Rattle.cache_model.proofs.Pairs.{same_object-sym}
use Rattle.stack_curve.specs.Distances.{earlier, since, is_within}
use Rattle.stack_curve.proofs.Different.{asks_for, asks-last, asks-reverse, asks-first, asks-next, asks-at}
use Rattle.stack_curve.proofs.LruCurve.{all-earlier}
use Rattle.stack_curve.proofs.LruEntries.{all-take}
use Rattle.stack_curve.proofs.CountLemmas.{same-latest, none-later, cut-latest, since-latest}
use Rattle.byte_curve.specs.Counts.{latest_bytes, bytes_at}
use Rattle.byte_curve.specs.Distances.{fits_in, bytes_asked, byte_distance, is_hit}
use Rattle.byte_curve.specs.Sizes.{greatest_size}
use Rattle.byte_curve.proofs.Weights.{weigh, weigh-reverse}
use Rattle.byte_curve.proofs.LruBytes.{bytes-weigh}
use Rattle.byte_curve.proofs.SizeLemmas.{size-greatest}

or_false : (b : Bool) → (b || false) ≡ b
or_false true = refl
or_false false = refl

or_true : (b : Bool) → (b || true) ≡ true
or_true true = refl
or_true false = refl

-- which requests are the latest of their objects
length-latest : (xs : List Object) → length (latest_bytes xs) ≡ length xs
length-latest [] = refl
length-latest (x ∷ xs) = omega (arith, length-latest xs)

sum-latest : (xs : List Object) → sum (latest_bytes xs) ≡ weigh (λ x. x.size) xs
sum-latest [] = refl
sum-latest (x ∷ xs) =
    sum_by-cons (λ (n : ℕ). n) (cond (asks_for x xs) 0 x.size) (latest_bytes xs)
    ∙ ap (λ n. cond (asks_for x xs) 0 x.size + n) (sum-latest xs)
    ∙ at (asks_for x xs) x.size (weigh (λ z. z.size) xs)
  where
    at : (b : Bool) (s w : ℕ) → cond b 0 s + w ≡ cond b w (s + w)
    at true s w = omega arith
    at false s w = refl

drop-latest : (n : ℕ) (xs : List Object) → drop n (latest_bytes xs) ≡ latest_bytes (drop n xs)
drop-latest zero xs = refl
drop-latest (suc n) [] = refl
drop-latest (suc n) (x ∷ xs) = drop-latest n xs

latest-new : (x : Object) (xs : List Object) → asks_for x xs ≡ false → latest_bytes (xs ++ x ∷ []) ≡ latest_bytes xs ++ x.size ∷ []
latest-new x [] none = refl
latest-new x (y ∷ ys) none =
    let parts : (same_object x y ≡ false) × (asks_for x ys ≡ false) = or_parts _ _ none in
    ap (λ b. cond b 0 y.size ∷ latest_bytes (ys ++ x ∷ [])) (asks-last y x ys ∙ ap (λ b. asks_for y ys || b) (same_object-sym y x ∙ parts.0) ∙ or_false (asks_for y ys))
    ∙ ap (λ ns. cond (asks_for y ys) 0 y.size ∷ ns) (latest-new x ys parts.1)

latest-again : (x : Object) (xs : List Object) (a : ℕ) → a < length xs → same_object x (request_at xs a) ≡ true → asks_for x (drop (suc a) xs) ≡ false
    → latest_bytes (xs ++ x ∷ []) ≡ set (latest_bytes xs) a 0 ++ x.size ∷ []
latest-again x [] a within same later = absurd (omega arith)
latest-again x (y ∷ ys) zero within same later =
    ap (λ b. cond b 0 y.size ∷ latest_bytes (ys ++ x ∷ [])) (asks-last y x ys ∙ ap (λ b. asks_for y ys || b) (same_object-sym y x ∙ same) ∙ or_true (asks_for y ys))
    ∙ ap (λ ns. 0 ∷ ns) (latest-new x ys later)
latest-again x (y ∷ ys) (suc a) within same later =
    ap (λ b. cond b 0 y.size ∷ latest_bytes (ys ++ x ∷ []))
    (⊎_elim
    (λ (here : same_object y x ≡ true).
    let e : y ≡ x = same_object-true y x here in
    let there : asks_for y ys ≡ true = ap (λ z. asks_for z ys) e ∙ asks-at x ys a (omega arith) same in
    asks-last y x ys ∙ ap (λ b. b || same_object y x) there ∙ sym there)
    (λ (other : same_object y x ≡ false). asks-last y x ys ∙ ap (λ b. asks_for y ys || b) other ∙ or_false (asks_for y ys))
    (cases_Bool (same_object y x)))
    ∙ ap (λ ns. cond (asks_for y ys) 0 y.size ∷ ns) (latest-again x ys a (omega arith) same later)

filter-all : (p : Object → Bool) (xs : List Object) → AllByRecursion (λ x. p x ≡ true) xs → filter p xs ≡ xs
filter-all p [] each = refl
filter-all p (x ∷ xs) each = ap (λ b. cond b (x ∷ filter p xs) (filter p xs)) each.0 ∙ ap (λ zs. x ∷ zs) (filter-all p xs each.1)

module _ (trace : List Object) where
  pub bytes-start : (bytes : List ℕ) (n : ℕ) → n ≡ length trace → bytes ≡ replicate n 0 → bytes ≡ bytes_at trace 0
  bytes-start bytes n end none = let e : n ≡ length trace - 0 = omega arith in none ∙ ap (λ k. replicate k 0) e

  length-bytes : (t : ℕ) → t ≤ length trace → length (bytes_at trace t) ≡ length trace
  length-bytes t within =
      omega (arith, length-append (latest_bytes (take t trace)) (replicate (length trace - t) 0), length-latest (take t trace), length-take-le t trace within, length-replicate {A = ℕ} (length trace - t) 0)

  pub bytes-long : (t : ℕ) (bytes : List ℕ) → t ≤ length trace → bytes ≡ bytes_at trace t → length bytes ≡ length trace
  bytes-long t bytes within is = ap length is ∙ length-bytes t within

  module _ (t : ℕ) (within : t < length trace) where
    to_come : replicate {A = ℕ} (length trace - t) 0 ≡ 0 ∷ replicate (length trace - (t + 1)) 0
    to_come = let e : length trace - t ≡ suc (length trace - (t + 1)) = omega arith in ap (λ n. replicate {A = ℕ} n 0) e

    set_own : (bytes : List ℕ) (size : ℕ) → length bytes ≡ t → set (bytes ++ replicate (length trace - t) 0) t size ≡ (bytes ++ size ∷ []) ++ replicate (length trace - (t + 1)) 0
    set_own bytes size long =
        ap (λ ns. set (bytes ++ ns) t size) to_come
        ∙ set_at bytes 0 (replicate (length trace - (t + 1)) 0) size t long
        ∙ sym (append_assoc bytes (size ∷ []) (replicate (length trace - (t + 1)) 0))

    -- a request of a new object
    pub bytes-new : IsFirst trace t → set (bytes_at trace t) t (request_at trace t).size ≡ bytes_at trace (t + 1)
    bytes-new first =
        set_own (latest_bytes (take t trace)) (request_at trace t).size (length-latest (take t trace) ∙ length-take-le t trace (omega arith))
        ∙ ap (λ ns. ns ++ replicate (length trace - (t + 1)) 0) (sym (latest-new (request_at trace t) (take t trace) (asks-first trace t within first)) ∙ ap latest_bytes (sym (take_more trace t no_object within)))

    module _ (a : ℕ) (next : IsNext trace a t) where
      -- the bytes of the object move
      pub bytes-again : set (set (bytes_at trace t) a 0) t (request_at trace t).size ≡ bytes_at trace (t + 1)
      bytes-again =
          let low : a < t = next.before in
          let size : ℕ = (request_at trace t).size in
          let long : length (latest_bytes (take t trace)) ≡ t = length-latest (take t trace) ∙ length-take-le t trace (omega arith) in
          ap (λ ns. set ns t size) (set-append_left (latest_bytes (take t trace)) (replicate (length trace - t) 0) a 0 (omega arith))
          ∙ set_own (set (latest_bytes (take t trace)) a 0) size (length-set (latest_bytes (take t trace)) a 0 ∙ long)
          ∙ ap (λ ns. ns ++ replicate (length trace - (t + 1)) 0)
          (sym (latest-again (request_at trace t) (take t trace) a (omega (arith, length-take-le t trace (omega arith))) (same-latest trace t within a next) (let e : suc a ≡ a + 1 = omega arith in ap (λ n. asks_for (request_at trace t) (drop n (take t trace))) e ∙ none-later trace t within a next)) ∙ ap latest_bytes (sym (take_more trace t no_object within)))

      -- the bytes from the previous request on
      between : sum (slice_range (bytes_at trace t) a t) ≡ (request_at trace t).size + weigh (λ x. x.size) (drop (a + 1) (take t trace))
      between =
          let low : a < t = next.before in
          let x : Object = request_at trace t in
          let y : Object = request_at (take t trace) a in
          let rest : List Object = drop (a + 1) (take t trace) in
          let e : x ≡ y = same_object-true x y (same-latest trace t within a next) in
          let long : length (latest_bytes (take t trace)) ≡ t = length-latest (take t trace) ∙ length-take-le t trace (omega arith) in
          ap (λ ns. sum (take (t - a) ns)) (drop-append-le a (latest_bytes (take t trace)) (replicate (length trace - t) 0) (omega arith))
          ∙ ap sum (take_at (drop a (latest_bytes (take t trace))) (replicate (length trace - t) 0) (t - a) (omega (arith, length-drop a (latest_bytes (take t trace)))))
          ∙ ap sum (drop-latest a (take t trace))
          ∙ sum-latest (drop a (take t trace))
          ∙ ap (weigh (λ z. z.size)) (cut-latest trace t within a next)
          ∙ ap (λ b. cond b (weigh (λ z. z.size) rest) (y.size + weigh (λ z. z.size) rest)) (ap (λ z. asks_for z rest) (sym e) ∙ none-later trace t within a next)
          ∙ ap (λ (z : Object). z.size + weigh (λ w. w.size) rest) (sym e)

      -- the distance in bytes, at a capacity that no size passes
      distance : (capacity : ℕ) → greatest_size trace ≤ capacity → byte_distance capacity trace t ≡ Some (sum (slice_range (bytes_at trace t) a t))
      distance capacity large =
          let x : Object = request_at trace t in
          let h : List Object = earlier trace t in
          let p : Object → Bool = fits_in capacity in
          let fits : (k : ℕ) → k < length trace → p (request_at trace k) ≡ true = λ k inside. le-leb (request_at trace k).size capacity (omega (arith, size-greatest trace k)) in
          let small : x.size ≤ capacity = omega (arith, size-greatest trace t) in
          let each : AllByRecursion (λ y. p y ≡ true) h = all-earlier trace (λ y. p y ≡ true) t (omega arith) (λ k low. fits k (omega arith)) in
          ap (λ b. cond (b && asks_for x h) (Some (bytes_asked capacity (x ∷ since x h))) None) (fits t within)
          ∙ ap (λ b. cond (true && b) (Some (bytes_asked capacity (x ∷ since x h))) None) (asks-reverse x (take t trace) ∙ asks-next trace a t within next)
          ∙ ap Some
          (bytes-weigh capacity x h small
          ∙ ap (λ xs. x.size + weigh (λ z. z.size) xs) (filter-all p (since x h) (all-take (λ y. p y ≡ true) _ h each) ∙ since-latest trace t within a next)
          ∙ ap (λ n. x.size + n) (weigh-reverse (λ z. z.size) (drop (a + 1) (take t trace)))
          ∙ sym between)

      pub hit-next : (capacity : ℕ) → greatest_size trace ≤ capacity → is_hit capacity trace t ≡ leb (sum (slice_range (bytes_at trace t) a t)) capacity
      hit-next capacity large = ap (is_within capacity) (distance capacity large)

    -- a request of a new object is no hit
    pub hit-first : (capacity : ℕ) → IsFirst trace t → is_hit capacity trace t ≡ false
    hit-first capacity first =
        let x : Object = request_at trace t in
        let h : List Object = earlier trace t in
        ap (λ b. is_within capacity (cond b (Some (bytes_asked capacity (x ∷ since x h))) None))
        (and_right (fits_in capacity x) (asks_for x h) (asks-reverse x (take t trace) ∙ asks-first trace t within first))
