-- Sums over the different objects of a list of requests, each counted at its last place.
use Rattle.std.proofs.Common.{◌≡◌, ℕ, zero, suc, ◌+◌, ◌<◌, ◌≤◌, ◌∙◌, sym, refl, ap, ⊎_elim, Bool, true, false, not, ◌||◌, cond, List, [], ◌∷◌, ◌++◌, length, take, reverse, filter, arith, sum_by}
use Rattle.std.proofs.lemmas.Bool.{cases_Bool}
use Rattle.std.proofs.lemmas.List.{take_more, take_all, reverse-append}
use Rattle.std.proofs.lemmas.List.Sums.{sum_by-cons, sum_by_push}
use Rattle.cache_model.specs.declared.objects.Object.{Object}
use Rattle.cache_model.specs.Claim.{same_object, request_at, no_object}
use Rattle.cache_model.specs.Objects.{objects_of, IsFirst, IsNext}
use Rattle.cache_model.proofs.Duality.{same_object-true}
use Rattle.cache_model.proofs.Pairs.{same_object-sym}
use Rattle.cache_model.proofs.Scores.{first_or_next}
use Rattle.cache_model.proofs.DifferentObjects.{objects_of-pushed_new, objects_of-pushed_again}
use Rattle.stack_curve.specs.Distances.{since}
use Rattle.stack_curve.proofs.Different.{asks_for, asks-last, asks-reverse, asks-first, asks-next, new-at, latest-at, since-here, since-other}
use Rattle.stack_curve.proofs.Recent.{less, recent, Distinct, Distinct-recent, asks-recent, less-none}

-- the sum of f over the different objects, each taken where no later request is for it
abbrev pub weigh : (Object → ℕ) → List Object → ℕ
weigh f [] = 0
weigh f (x ∷ xs) = cond (asks_for x xs) (weigh f xs) (f x + weigh f xs)

-- one more request at the end
weigh-last : (f : Object → ℕ) (xs : List Object) (y : Object) → weigh f (xs ++ y ∷ []) ≡ cond (asks_for y xs) (weigh f xs) (weigh f xs + f y)
weigh-last f [] y = omega arith
weigh-last f (x ∷ xs) y =
    ap (λ b. cond b (weigh f (xs ++ y ∷ [])) (f x + weigh f (xs ++ y ∷ []))) (asks-last x y xs)
    ∙ ap (λ w. cond (asks_for x xs || same_object x y) w (f x + w)) (weigh-last f xs y)
    ∙ ⊎_elim
    (λ (same : same_object x y ≡ true).
    let e : x ≡ y = same_object-true x y same in
    let twin : asks_for y xs ≡ asks_for x xs = ap (λ z. asks_for z xs) (sym e) in
    let worth : f x ≡ f y = ap f e in
    ap (λ s. cond (asks_for x xs || s) (cond (asks_for y xs) (weigh f xs) (weigh f xs + f y)) (f x + cond (asks_for y xs) (weigh f xs) (weigh f xs + f y))) same
    ∙ ap (λ b. cond (asks_for x xs || true) (cond b (weigh f xs) (weigh f xs + f y)) (f x + cond b (weigh f xs) (weigh f xs + f y))) twin
    ∙ one (asks_for x xs) (weigh f xs) (f x) (f y) worth
    ∙ ap (λ s. cond (s || asks_for y xs) (weigh f (x ∷ xs)) (weigh f (x ∷ xs) + f y)) (sym (same_object-sym y x ∙ same)))
    (λ (other : same_object x y ≡ false).
    ap (λ s. cond (asks_for x xs || s) (cond (asks_for y xs) (weigh f xs) (weigh f xs + f y)) (f x + cond (asks_for y xs) (weigh f xs) (weigh f xs + f y))) other
    ∙ two (asks_for x xs) (asks_for y xs) (weigh f xs) (f x) (f y)
    ∙ ap (λ s. cond (s || asks_for y xs) (weigh f (x ∷ xs)) (weigh f (x ∷ xs) + f y)) (sym (same_object-sym y x ∙ other)))
    (cases_Bool (same_object x y))
  where
    one : (b : Bool) (w m n : ℕ) → m ≡ n → cond (b || true) (cond b w (w + n)) (m + cond b w (w + n)) ≡ cond b w (m + w)
    one true w m n e = refl
    one false w m n e = omega arith

    two : (b d : Bool) (w m n : ℕ) → cond (b || false) (cond d w (w + n)) (m + cond d w (w + n)) ≡ cond d (cond b w (m + w)) (cond b w (m + w) + n)
    two true true w m n = refl
    two true false w m n = refl
    two false true w m n = refl
    two false false w m n = omega arith

-- the order of the requests plays no part
pub weigh-reverse : (f : Object → ℕ) (xs : List Object) → weigh f (reverse xs) ≡ weigh f xs
weigh-reverse f [] = refl
weigh-reverse f (y ∷ ys) =
    ap (weigh f) (reverse-append (y ∷ []) ys) ∙ weigh-last f (reverse ys) y
    ∙ ap (λ b. cond b (weigh f (reverse ys)) (weigh f (reverse ys) + f y)) (asks-reverse y ys)
    ∙ ap (λ w. cond (asks_for y ys) w (w + f y)) (weigh-reverse f ys)
    ∙ at (asks_for y ys) (weigh f ys) (f y)
  where
    at : (b : Bool) (w n : ℕ) → cond b w (w + n) ≡ cond b w (n + w)
    at true w n = refl
    at false w n = omega arith

-- the objects of a list
module _ (f : Object → ℕ) (trace : List Object) where
  prefixes : (t : ℕ) → t ≤ length trace → sum_by f (objects_of (take t trace)) ≡ weigh f (take t trace)
  prefixes zero within = refl
  prefixes (suc t) within =
      let x : Object = request_at trace t in
      let low : t < length trace = omega arith in
      let one : t + 1 ≡ suc t = omega arith in
      let more : take (suc t) trace ≡ take t trace ++ x ∷ [] = ap (λ n. take n trace) (sym one) ∙ take_more trace t no_object low in
      ap (λ xs. sum_by f (objects_of xs)) more
      ∙ ⊎_elim
      (λ (first : IsFirst trace t).
      ap (sum_by f) (objects_of-pushed_new (take t trace) x (new-at trace t low first))
      ∙ omega (
        arith,
        sum_by_push f (objects_of (take t trace)) x,
        prefixes t (omega arith),
        weigh-last f (take t trace) x,
        ap (λ b. cond b (weigh f (take t trace)) (weigh f (take t trace) + f x)) (asks-first trace t low first),
      ))
      (λ (again : (a : ℕ) × IsNext trace a t).
      ap (sum_by f) (objects_of-pushed_again (take t trace) x again.0 (latest-at trace again.0 t low again.1))
      ∙ omega (
        arith,
        prefixes t (omega arith),
        weigh-last f (take t trace) x,
        ap (λ b. cond b (weigh f (take t trace)) (weigh f (take t trace) + f x)) (asks-next trace again.0 t low again.1),
      ))
      (first_or_next trace t low)
      ∙ ap (weigh f) (sym more)

pub sum-objects : (f : Object → ℕ) (xs : List Object) → sum_by f (objects_of xs) ≡ weigh f xs
sum-objects f xs =
    let all : take (length xs) xs ≡ xs = take_all (length xs) xs (omega arith) in
    ap (λ ys. sum_by f (objects_of ys)) (sym all) ∙ prefixes f xs (length xs) (omega arith) ∙ ap (weigh f) all

-- the most recently used objects
less-at : (x y : Object) (ys : List Object) (b : Bool) → same_object x y ≡ b → less x (y ∷ ys) ≡ cond (not b) (y ∷ less x ys) (less x ys)
less-at x y ys b same = ap (λ s. cond (not s) (y ∷ less x ys) (less x ys)) same

sum-less : (f : Object → ℕ) (x : Object) (ys : List Object) → Distinct ys → asks_for x ys ≡ true → sum_by f (less x ys) + f x ≡ sum_by f ys
sum-less f x [] apart there = cc
sum-less f x (y ∷ ys) apart there =
    ⊎_elim
    (λ (same : same_object x y ≡ true).
    let e : x ≡ y = same_object-true x y same in
    let gone : asks_for x ys ≡ false = ap (λ z. asks_for z ys) e ∙ apart.0 in
    omega (arith, ap (sum_by f) (less-at x y ys true same ∙ less-none x ys gone), ap f e, sum_by-cons f y ys))
    (λ (other : same_object x y ≡ false).
    let later : asks_for x ys ≡ true = sym (ap (λ b. b || asks_for x ys) other) ∙ there in
    omega (arith, ap (sum_by f) (less-at x y ys false other), sum_by-cons f y (less x ys), sum_by-cons f y ys, sum-less f x ys apart.1 later))
    (cases_Bool (same_object x y))

pub sum-recent : (f : Object → ℕ) (h : List Object) → sum_by f (recent h) ≡ weigh f h
sum-recent f [] = refl
sum-recent f (x ∷ h) =
    ⊎_elim
    (λ (again : asks_for x h ≡ true).
    omega (
      arith,
      sum_by-cons f x (less x (recent h)),
      sum-less f x (recent h) (Distinct-recent h) (asks-recent x h ∙ again),
      sum-recent f h,
      ap (λ b. cond b (weigh f h) (f x + weigh f h)) again,
    ))
    (λ (new : asks_for x h ≡ false).
    omega (
      arith,
      sum_by-cons f x (less x (recent h)),
      ap (sum_by f) (less-none x (recent h) (asks-recent x h ∙ new)),
      sum-recent f h,
      ap (λ b. cond b (weigh f h) (f x + weigh f h)) new,
    ))
    (cases_Bool (asks_for x h))

-- the requests that pass a test
module _ (p : Object → Bool) where
  filter-at : (y : Object) (ys : List Object) (b : Bool) → p y ≡ b → filter p (y ∷ ys) ≡ cond b (y ∷ filter p ys) (filter p ys)
  filter-at y ys b is = ap (λ t. cond t (y ∷ filter p ys) (filter p ys)) is

  pub asks-filter : (x : Object) (ys : List Object) → p x ≡ true → asks_for x (filter p ys) ≡ asks_for x ys
  asks-filter x [] passes = refl
  asks-filter x (y ∷ ys) passes =
      ⊎_elim
      (λ (yes : p y ≡ true). ap (asks_for x) (filter-at y ys true yes) ∙ ap (λ b. same_object x y || b) (asks-filter x ys passes))
      (λ (no : p y ≡ false).
      ap (asks_for x) (filter-at y ys false no) ∙ asks-filter x ys passes
      ∙ ⊎_elim
      (λ (same : same_object x y ≡ true). let e : x ≡ y = same_object-true x y same in let yes : p y ≡ true = ap p (sym e) ∙ passes in cc)
      (λ (other : same_object x y ≡ false). sym (ap (λ b. b || asks_for x ys) other))
      (cases_Bool (same_object x y)))
      (cases_Bool (p y))

  pub since-filter : (x : Object) (ys : List Object) → p x ≡ true → since x (filter p ys) ≡ filter p (since x ys)
  since-filter x [] passes = refl
  since-filter x (y ∷ ys) passes =
      ⊎_elim
      (λ (same : same_object x y ≡ true).
      let e : x ≡ y = same_object-true x y same in
      let yes : p y ≡ true = ap p (sym e) ∙ passes in
      ap (since x) (filter-at y ys true yes) ∙ since-here x y (filter p ys) same ∙ sym (ap (filter p) (since-here x y ys same)))
      (λ (other : same_object x y ≡ false).
      ⊎_elim
      (λ (yes : p y ≡ true).
      ap (since x) (filter-at y ys true yes) ∙ since-other x y (filter p ys) other ∙ ap (λ zs. y ∷ zs) (since-filter x ys passes)
      ∙ sym (ap (filter p) (since-other x y ys other) ∙ filter-at y (since x ys) true yes))
      (λ (no : p y ≡ false).
      ap (since x) (filter-at y ys false no) ∙ since-filter x ys passes ∙ sym (ap (filter p) (since-other x y ys other) ∙ filter-at y (since x ys) false no))
      (cases_Bool (p y)))
      (cases_Bool (same_object x y))

  -- a sum in which those that fail count nothing
  abbrev pub passed : (Object → ℕ) → Object → ℕ
  passed f x = cond (p x) (f x) 0

  pub sum-filter : (f : Object → ℕ) (xs : List Object) → sum_by f (filter p xs) ≡ sum_by (passed f) xs
  sum-filter f [] = refl
  sum-filter f (x ∷ xs) =
      ⊎_elim
      (λ (yes : p x ≡ true).
      omega (arith, ap (sum_by f) (filter-at x xs true yes), sum_by-cons f x (filter p xs), sum_by-cons (passed f) x xs, sum-filter f xs, ap {B = ℕ} (λ b. cond b (f x) 0) yes))
      (λ (no : p x ≡ false).
      omega (arith, ap (sum_by f) (filter-at x xs false no), sum_by-cons (passed f) x xs, sum-filter f xs, ap {B = ℕ} (λ b. cond b (f x) 0) no))
      (cases_Bool (p x))

  pub weigh-filter : (f : Object → ℕ) (xs : List Object) → weigh (passed f) xs ≡ weigh f (filter p xs)
  weigh-filter f [] = refl
  weigh-filter f (x ∷ xs) =
      ⊎_elim
      (λ (yes : p x ≡ true).
      ap (λ m. cond (asks_for x xs) (weigh (passed f) xs) (m + weigh (passed f) xs)) (ap (λ b. cond b (f x) 0) yes)
      ∙ ap (λ w. cond (asks_for x xs) w (f x + w)) (weigh-filter f xs)
      ∙ ap (λ b. cond b (weigh f (filter p xs)) (f x + weigh f (filter p xs))) (sym (asks-filter x xs yes))
      ∙ sym (ap (weigh f) (filter-at x xs true yes)))
      (λ (no : p x ≡ false).
      ap (λ m. cond (asks_for x xs) (weigh (passed f) xs) (m + weigh (passed f) xs)) (ap (λ b. cond b (f x) 0) no)
      ∙ nothing (asks_for x xs) (weigh (passed f) xs)
      ∙ weigh-filter f xs
      ∙ sym (ap (weigh f) (filter-at x xs false no)))
      (cases_Bool (p x))
    where
      nothing : (b : Bool) (w : ℕ) → cond b w (0 + w) ≡ w
      nothing true w = refl
      nothing false w = omega arith
