-- Counting different objects, each at its last place in a list.
use Rattle.std.proofs.Common.{◌≡◌, ℕ, zero, suc, ◌+◌, ◌<◌, ◌≤◌, ◌∙◌, sym, refl, ap, ⊎_elim, Bool, true, false, not, ◌||◌, cond, List, [], ◌∷◌, ◌++◌, length, take, reverse, arith}
use Rattle.std.specs.List.{list_any}
use Rattle.std.proofs.lemmas.Bool.{cases_Bool}
use Rattle.std.proofs.lemmas.List.{length-append, length-take-le, take_more, take_all, get_or-take, reverse-append}
use Rattle.std.proofs.lemmas.List.Folds.{list_any-append}
use Rattle.std.proofs.lemmas.List.Sums.{take_while-cons}
use Rattle.cache_model.specs.declared.objects.Object.{Object}
use Rattle.cache_model.specs.Claim.{same_object, request_at, no_object}
use Rattle.cache_model.specs.Objects.{objects_of, IsFirst, IsNext, IsNew, IsLatest}
use Rattle.cache_model.proofs.Duality.{same_object-true}
use Rattle.cache_model.proofs.Pairs.{same_object-sym}
use Rattle.cache_model.proofs.Scores.{first_or_next}
use Rattle.cache_model.proofs.DifferentObjects.{objects_of-pushed_new, objects_of-pushed_again}
use Rattle.stack_curve.specs.Distances.{different, since}

-- whether a request is for x
abbrev pub asks_for : Object → List Object → Bool
asks_for x requests = list_any (same_object x) requests

-- the different objects, each counted where no later request is for it
abbrev pub kinds : List Object → ℕ
kinds [] = 0
kinds (x ∷ xs) = cond (asks_for x xs) (kinds xs) (1 + kinds xs)

or_false : (b : Bool) → (b || false) ≡ b
or_false true = refl
or_false false = refl

pub asks-last : (x y : Object) (xs : List Object) → asks_for x (xs ++ y ∷ []) ≡ (asks_for x xs || same_object x y)
asks-last x y xs = list_any-append (same_object x) xs (y ∷ []) ∙ ap (λ b. asks_for x xs || b) (or_false (same_object x y))

-- one more request at the end
pub kinds-last : (xs : List Object) (y : Object) → kinds (xs ++ y ∷ []) ≡ cond (asks_for y xs) (kinds xs) (1 + kinds xs)
kinds-last [] y = refl
kinds-last (x ∷ xs) y =
    ap (λ b. cond b (kinds (xs ++ y ∷ [])) (1 + kinds (xs ++ y ∷ []))) (asks-last x y xs)
    ∙ ap (λ k. cond (asks_for x xs || same_object x y) k (1 + k)) (kinds-last xs y)
    ∙ ⊎_elim
    (λ (same : same_object x y ≡ true).
    let e : x ≡ y = same_object-true x y same in
    let twin : asks_for y xs ≡ asks_for x xs = ap (λ z. asks_for z xs) (sym e) in
    ap (λ s. cond (asks_for x xs || s) (cond (asks_for y xs) (kinds xs) (1 + kinds xs)) (1 + cond (asks_for y xs) (kinds xs) (1 + kinds xs))) same
    ∙ ap (λ b. cond (asks_for x xs || true) (cond b (kinds xs) (1 + kinds xs)) (1 + cond b (kinds xs) (1 + kinds xs))) twin
    ∙ one (asks_for x xs) (kinds xs)
    ∙ ap (λ s. cond (s || asks_for y xs) (kinds (x ∷ xs)) (1 + kinds (x ∷ xs))) (sym (same_object-sym y x ∙ same)))
    (λ (other : same_object x y ≡ false).
    ap (λ s. cond (asks_for x xs || s) (cond (asks_for y xs) (kinds xs) (1 + kinds xs)) (1 + cond (asks_for y xs) (kinds xs) (1 + kinds xs))) other
    ∙ two (asks_for x xs) (asks_for y xs) (kinds xs)
    ∙ ap (λ s. cond (s || asks_for y xs) (kinds (x ∷ xs)) (1 + kinds (x ∷ xs))) (sym (same_object-sym y x ∙ other)))
    (cases_Bool (same_object x y))
  where
    one : (b : Bool) (k : ℕ) → cond (b || true) (cond b k (1 + k)) (1 + cond b k (1 + k)) ≡ cond b k (1 + k)
    one true k = refl
    one false k = refl

    two : (b d : Bool) (k : ℕ) → cond (b || false) (cond d k (1 + k)) (1 + cond d k (1 + k)) ≡ cond d (cond b k (1 + k)) (1 + cond b k (1 + k))
    two true true k = refl
    two true false k = refl
    two false true k = refl
    two false false k = refl

-- the order of the requests plays no part
pub asks-reverse : (x : Object) (xs : List Object) → asks_for x (reverse xs) ≡ asks_for x xs
asks-reverse x [] = refl
asks-reverse x (y ∷ ys) =
    ap (asks_for x) (reverse-append (y ∷ []) ys) ∙ asks-last x y (reverse ys) ∙ ap (λ b. b || same_object x y) (asks-reverse x ys) ∙ swap (asks_for x ys) (same_object x y)
  where
    swap : (a b : Bool) → (a || b) ≡ (b || a)
    swap true true = refl
    swap true false = refl
    swap false true = refl
    swap false false = refl

pub kinds-reverse : (xs : List Object) → kinds (reverse xs) ≡ kinds xs
kinds-reverse [] = refl
kinds-reverse (y ∷ ys) =
    ap kinds (reverse-append (y ∷ []) ys) ∙ kinds-last (reverse ys) y
    ∙ ap (λ b. cond b (kinds (reverse ys)) (1 + kinds (reverse ys))) (asks-reverse y ys)
    ∙ ap (λ k. cond (asks_for y ys) k (1 + k)) (kinds-reverse ys)

-- the objects of a list
pub asks-none : (x : Object) (xs : List Object) → ((k : ℕ) → k < length xs → same_object x (request_at xs k) ≡ false) → asks_for x xs ≡ false
asks-none x [] none = refl
asks-none x (y ∷ ys) none = ap (λ b. b || asks_for x ys) (none 0 (omega arith)) ∙ asks-none x ys (λ k low. none (suc k) (omega arith))

pub asks-at : (x : Object) (xs : List Object) (k : ℕ) → k < length xs → same_object x (request_at xs k) ≡ true → asks_for x xs ≡ true
asks-at x [] k low same = absurd (omega arith)
asks-at x (y ∷ ys) zero low same = ap (λ b. b || asks_for x ys) same
asks-at x (y ∷ ys) (suc k) low same = ap (λ b. same_object x y || b) (asks-at x ys k (omega arith) same) ∙ or_true (same_object x y)
  where
    or_true : (b : Bool) → (b || true) ≡ true
    or_true true = refl
    or_true false = refl

module _ (trace : List Object) where
  -- no request before t is for its object
  pub new-at : (t : ℕ) → t < length trace → IsFirst trace t → IsNew (take t trace) (request_at trace t)
  new-at t within first = λ k low.
      let short : length (take t trace) ≡ t = length-take-le t trace (omega arith) in
      ap (same_object (request_at trace t)) (get_or-take t trace k no_object (omega arith)) ∙ first k (omega arith)

  -- or request a is the latest of them
  pub latest-at : (a t : ℕ) → t < length trace → IsNext trace a t → IsLatest (take t trace) (request_at trace t) a
  latest-at a t within next =
      let short : length (take t trace) ≡ t = length-take-le t trace (omega arith) in
      let before : a < t = next.before in
      let here : request_at trace a ≡ request_at trace t = same_object-true (request_at trace a) (request_at trace t) next.same in
      record {
        within = omega arith;
        same = ap (same_object (request_at trace t)) (get_or-take t trace a no_object before) ∙ same_object-sym (request_at trace t) (request_at trace a) ∙ next.same;
        others = λ k after low.
            ap (same_object (request_at trace t)) (get_or-take t trace k no_object (omega arith))
            ∙ ap (λ y. same_object y (request_at trace k)) (sym here) ∙ next.others k after (omega arith);
      }

  pub asks-first : (t : ℕ) → t < length trace → IsFirst trace t → asks_for (request_at trace t) (take t trace) ≡ false
  asks-first t within first = asks-none (request_at trace t) (take t trace) (new-at t within first)

  pub asks-next : (a t : ℕ) → t < length trace → IsNext trace a t → asks_for (request_at trace t) (take t trace) ≡ true
  asks-next a t within next =
      let latest : IsLatest (take t trace) (request_at trace t) a = latest-at a t within next in
      asks-at (request_at trace t) (take t trace) a latest.within latest.same

  prefixes : (t : ℕ) → t ≤ length trace → different (take t trace) ≡ kinds (take t trace)
  prefixes zero within = refl
  prefixes (suc t) within =
      let x : Object = request_at trace t in
      let low : t < length trace = omega arith in
      let one : t + 1 ≡ suc t = omega arith in
      let more : take (suc t) trace ≡ take t trace ++ x ∷ [] = ap (λ n. take n trace) (sym one) ∙ take_more trace t no_object low in
      ap different more
      ∙ ⊎_elim
      (λ (first : IsFirst trace t).
      ap length (objects_of-pushed_new (take t trace) x (new-at t low first))
      ∙ omega (arith, length-append (objects_of (take t trace)) (x ∷ []), prefixes t (omega arith), kinds-last (take t trace) x, ap (λ b. cond b (kinds (take t trace)) (1 + kinds (take t trace))) (asks-first t low first)))
      (λ (again : (a : ℕ) × IsNext trace a t).
      ap length (objects_of-pushed_again (take t trace) x again.0 (latest-at again.0 t low again.1))
      ∙ omega (arith, prefixes t (omega arith), kinds-last (take t trace) x, ap (λ b. cond b (kinds (take t trace)) (1 + kinds (take t trace))) (asks-next again.0 t low again.1)))
      (first_or_next trace t low)
      ∙ ap kinds (sym more)

pub different-kinds : (xs : List Object) → different xs ≡ kinds xs
different-kinds xs =
    let all : take (length xs) xs ≡ xs = take_all (length xs) xs (omega arith) in
    ap different (sym all) ∙ prefixes xs (length xs) (omega arith) ∙ ap kinds all

-- the requests after the latest one for x
pub since-other : (x y : Object) (ys : List Object) → same_object x y ≡ false → since x (y ∷ ys) ≡ y ∷ since x ys
since-other x y ys other = take_while-cons (λ z. not (same_object x z)) y ys ∙ ap (λ b. cond (not b) (y ∷ since x ys) []) other

pub since-here : (x y : Object) (ys : List Object) → same_object x y ≡ true → since x (y ∷ ys) ≡ []
since-here x y ys same = take_while-cons (λ z. not (same_object x z)) y ys ∙ ap (λ b. cond (not b) (y ∷ since x ys) []) same

pub since-without : (x : Object) (ys : List Object) → asks_for x (since x ys) ≡ false
since-without x [] = refl
since-without x (y ∷ ys) =
    ⊎_elim
    (λ (same : same_object x y ≡ true). ap (asks_for x) (since-here x y ys same))
    (λ (other : same_object x y ≡ false). ap (asks_for x) (since-other x y ys other) ∙ ap (λ b. b || asks_for x (since x ys)) other ∙ since-without x ys)
    (cases_Bool (same_object x y))

-- the distance counts the request itself
pub different-since : (x : Object) (ys : List Object) → different (x ∷ since x ys) ≡ 1 + kinds (since x ys)
different-since x ys = different-kinds (x ∷ since x ys) ∙ ap (λ b. cond b (kinds (since x ys)) (1 + kinds (since x ys))) (since-without x ys)
