-- The different objects of a list of requests, the most recently used first.
use Rattle.std.proofs.Common.{◌≡◌, ℕ, zero, suc, ◌+◌, ◌∙◌, sym, refl, ap, subst, ⊎_elim, Bool, true, false, not, ◌&&◌, ◌||◌, cond, nat_lt, List, [], ◌∷◌, length, take, filter, arith}
use Rattle.std.proofs.lemmas.Bool.{cases_Bool, or_parts, or_from, le-ltb, lt-ltb}
use Rattle.cache_model.specs.declared.objects.Object.{Object}
use Rattle.cache_model.specs.Claim.{same_object}
use Rattle.cache_model.proofs.Duality.{same_object-true}
use Rattle.cache_model.proofs.Pairs.{same_object-sym, ltb-suc}
use Rattle.stack_curve.specs.Distances.{since}
use Rattle.stack_curve.proofs.Different.{asks_for, kinds, since-other, since-here}

-- the list without x
abbrev pub less : Object → List Object → List Object
less x xs = filter (λ y. not (same_object x y)) xs

-- the different objects of requests that stand latest first
abbrev pub recent : List Object → List Object
recent [] = []
recent (x ∷ xs) = x ∷ less x (recent xs)

-- no object stands twice
abbrev pub Distinct : List Object → Type 0
Distinct [] = Unit {0}
Distinct (x ∷ xs) = (asks_for x xs ≡ false) × Distinct xs

-- a list without an object
less-head : (x y : Object) (ys : List Object) (b : Bool) → same_object x y ≡ b → less x (y ∷ ys) ≡ cond (not b) (y ∷ less x ys) (less x ys)
less-head x y ys b same = ap (λ s. cond (not s) (y ∷ less x ys) (less x ys)) same

asks-head : (x y : Object) (ys : List Object) → same_object x y ≡ false → asks_for x (y ∷ ys) ≡ asks_for x ys
asks-head x y ys other = ap (λ b. b || asks_for x ys) other

pub asks-gone : (x : Object) (ys : List Object) → asks_for x (less x ys) ≡ false
asks-gone x [] = refl
asks-gone x (y ∷ ys) =
    ⊎_elim
    (λ (same : same_object x y ≡ true). ap (asks_for x) (less-head x y ys true same) ∙ asks-gone x ys)
    (λ (other : same_object x y ≡ false). ap (asks_for x) (less-head x y ys false other) ∙ asks-head x y (less x ys) other ∙ asks-gone x ys)
    (cases_Bool (same_object x y))

pub asks-less : (x z : Object) (ys : List Object) → same_object x z ≡ false → asks_for z (less x ys) ≡ asks_for z ys
asks-less x z [] apart = refl
asks-less x z (y ∷ ys) apart =
    ⊎_elim
    (λ (same : same_object x y ≡ true).
    let e : x ≡ y = same_object-true x y same in
    let other : same_object z y ≡ false = ap (same_object z) (sym e) ∙ same_object-sym z x ∙ apart in
    ap (asks_for z) (less-head x y ys true same) ∙ asks-less x z ys apart ∙ sym (asks-head z y ys other))
    (λ (other : same_object x y ≡ false). ap (asks_for z) (less-head x y ys false other) ∙ ap (λ b. same_object z y || b) (asks-less x z ys apart))
    (cases_Bool (same_object x y))

pub less-none : (x : Object) (ys : List Object) → asks_for x ys ≡ false → less x ys ≡ ys
less-none x [] none = refl
less-none x (y ∷ ys) none =
    let parts : (same_object x y ≡ false) × (asks_for x ys ≡ false) = or_parts _ _ none in
    less-head x y ys false parts.0 ∙ ap (λ zs. y ∷ zs) (less-none x ys parts.1)

Distinct-less : (x : Object) (ys : List Object) → Distinct ys → Distinct (less x ys)
Distinct-less x [] apart = tt
Distinct-less x (y ∷ ys) apart =
    ⊎_elim
    (λ (same : same_object x y ≡ true). subst Distinct (sym (less-head x y ys true same)) (Distinct-less x ys apart.1))
    (λ (other : same_object x y ≡ false). subst Distinct (sym (less-head x y ys false other)) (asks-less x y ys other ∙ apart.0, Distinct-less x ys apart.1))
    (cases_Bool (same_object x y))

pub Distinct-recent : (h : List Object) → Distinct (recent h)
Distinct-recent [] = tt
Distinct-recent (x ∷ h) = (asks-gone x (recent h), Distinct-less x (recent h) (Distinct-recent h))

-- an object that goes goes once
once : (x y : Object) (ys : List Object) → same_object x y ≡ true → Distinct (y ∷ ys) → less x (y ∷ ys) ≡ ys
once x y ys same apart =
    let e : x ≡ y = same_object-true x y same in
    less-head x y ys true same ∙ less-none x ys (ap (λ z. asks_for z ys) e ∙ apart.0)

length-less : (x : Object) (ys : List Object) → Distinct ys → asks_for x ys ≡ true → length (less x ys) + 1 ≡ length ys
length-less x [] apart there = cc
length-less x (y ∷ ys) apart there =
    ⊎_elim
    (λ (same : same_object x y ≡ true). omega (arith, ap length (once x y ys same apart)))
    (λ (other : same_object x y ≡ false). omega (arith, ap length (less-head x y ys false other), length-less x ys apart.1 (sym (asks-head x y ys other) ∙ there)))
    (cases_Bool (same_object x y))

-- the most recently used objects
pub asks-recent : (x : Object) (h : List Object) → asks_for x (recent h) ≡ asks_for x h
asks-recent x [] = refl
asks-recent x (y ∷ h) =
    ⊎_elim
    (λ (same : same_object x y ≡ true). ap (λ b. b || asks_for x (less y (recent h))) same ∙ sym (ap (λ b. b || asks_for x h) same))
    (λ (other : same_object x y ≡ false). ap (λ b. same_object x y || b) (asks-less y x (recent h) (same_object-sym y x ∙ other) ∙ asks-recent x h))
    (cases_Bool (same_object x y))

pub length-recent : (h : List Object) → length (recent h) ≡ kinds h
length-recent [] = refl
length-recent (x ∷ h) =
    ⊎_elim
    (λ (again : asks_for x h ≡ true).
    omega (arith, length-less x (recent h) (Distinct-recent h) (asks-recent x h ∙ again), length-recent h, ap (λ b. cond b (kinds h) (1 + kinds h)) again))
    (λ (new : asks_for x h ≡ false).
    omega (arith, ap length (less-none x (recent h) (asks-recent x h ∙ new)), length-recent h, ap (λ b. cond b (kinds h) (1 + kinds h)) new))
    (cases_Bool (asks_for x h))

since-less : (x y : Object) (ys : List Object) → same_object x y ≡ false → since x (less y ys) ≡ less y (since x ys)
since-less x y [] apart = refl
since-less x y (z ∷ ys) apart =
    ⊎_elim
    (λ (here : same_object x z ≡ true).
    let e : x ≡ z = same_object-true x z here in
    let other : same_object y z ≡ false = ap (same_object y) (sym e) ∙ same_object-sym y x ∙ apart in
    ap (since x) (less-head y z ys false other) ∙ since-here x z (less y ys) here ∙ sym (ap (less y) (since-here x z ys here)))
    (λ (later : same_object x z ≡ false).
    ⊎_elim
    (λ (same : same_object y z ≡ true).
    ap (since x) (less-head y z ys true same) ∙ since-less x y ys apart ∙ sym (less-head y z (since x ys) true same) ∙ sym (ap (less y) (since-other x z ys later)))
    (λ (other : same_object y z ≡ false).
    ap (since x) (less-head y z ys false other) ∙ since-other x z (less y ys) later ∙ ap (λ zs. z ∷ zs) (since-less x y ys apart)
    ∙ sym (less-head y z (since x ys) false other) ∙ sym (ap (less y) (since-other x z ys later)))
    (cases_Bool (same_object y z)))
    (cases_Bool (same_object x z))

-- the objects before x are those of the requests after the latest one for x
pub since-recent : (x : Object) (h : List Object) → since x (recent h) ≡ recent (since x h)
since-recent x [] = refl
since-recent x (y ∷ h) =
    ⊎_elim
    (λ (here : same_object x y ≡ true). since-here x y (less y (recent h)) here ∙ sym (ap recent (since-here x y h here)))
    (λ (later : same_object x y ≡ false).
    since-other x y (less y (recent h)) later ∙ ap (λ zs. y ∷ zs) (since-less x y (recent h) later ∙ ap (less y) (since-recent x h))
    ∙ sym (ap recent (since-other x y h later)))
    (cases_Bool (same_object x y))

-- x is among the first k exactly if fewer than k come before it
pub asks-take : (x : Object) (k : ℕ) (ys : List Object) → asks_for x (take k ys) ≡ (asks_for x ys && nat_lt (length (since x ys)) k)
asks-take x zero ys =
    let none : nat_lt (length (since x ys)) 0 ≡ false = le-ltb (length (since x ys)) 0 (omega arith) in
    sym (ap (λ b. asks_for x ys && b) none ∙ and_false (asks_for x ys))
  where
    and_false : (b : Bool) → (b && false) ≡ false
    and_false true = refl
    and_false false = refl
asks-take x (suc k) [] = refl
asks-take x (suc k) (y ∷ ys) =
    ⊎_elim
    (λ (here : same_object x y ≡ true).
    ap (λ b. b || asks_for x (take k ys)) here
    ∙ sym (lt-ltb 0 (suc k) (omega arith))
    ∙ sym (ap (λ b. (b || asks_for x ys) && nat_lt (length (since x (y ∷ ys))) (suc k)) here ∙ ap (λ zs. nat_lt (length zs) (suc k)) (since-here x y ys here)))
    (λ (later : same_object x y ≡ false).
    asks-head x y (take k ys) later ∙ asks-take x k ys
    ∙ ap (λ b. asks_for x ys && b) (sym (ltb-suc (length (since x ys)) k))
    ∙ sym (ap (λ b. (b || asks_for x ys) && nat_lt (length (since x (y ∷ ys))) (suc k)) later ∙ ap (λ zs. asks_for x ys && nat_lt (length zs) (suc k)) (since-other x y ys later)))
    (cases_Bool (same_object x y))

-- where x is among them it moves to the front
pub take-hit : (x : Object) (k : ℕ) (ys : List Object) → Distinct ys → asks_for x (take (suc k) ys) ≡ true → less x (take (suc k) ys) ≡ take k (less x ys)
take-hit x k [] apart there = cc
take-hit x zero (y ∷ ys) apart there =
    ⊎_elim
    (λ (same : same_object x y ≡ true). less-head x y [] true same)
    (λ (other : same_object x y ≡ false). let none : asks_for x (y ∷ []) ≡ false = asks-head x y [] other in cc)
    (cases_Bool (same_object x y))
take-hit x (suc k) (y ∷ ys) apart there =
    ⊎_elim
    (λ (same : same_object x y ≡ true).
    let e : x ≡ y = same_object-true x y same in
    less-head x y (take (suc k) ys) true same
    ∙ less-none x (take (suc k) ys) (asks-fewer x (suc k) ys (ap (λ z. asks_for z ys) e ∙ apart.0))
    ∙ ap (take (suc k)) (sym (once x y ys same apart)))
    (λ (other : same_object x y ≡ false).
    less-head x y (take (suc k) ys) false other
    ∙ ap (λ zs. y ∷ zs) (take-hit x k ys apart.1 (sym (asks-head x y (take (suc k) ys) other) ∙ there))
    ∙ ap (take (suc k)) (sym (less-head x y ys false other)))
    (cases_Bool (same_object x y))
  where
    asks-fewer : (z : Object) (n : ℕ) (zs : List Object) → asks_for z zs ≡ false → asks_for z (take n zs) ≡ false
    asks-fewer z n zs none = asks-take z n zs ∙ ap (λ b. b && nat_lt (length (since z zs)) n) none

-- where it is not, those before it stay
pub take-miss : (x : Object) (k : ℕ) (ys : List Object) → asks_for x (take k ys) ≡ false → take k (less x ys) ≡ take k ys
take-miss x zero ys none = refl
take-miss x (suc k) [] none = refl
take-miss x (suc k) (y ∷ ys) none =
    let parts : (same_object x y ≡ false) × (asks_for x (take k ys) ≡ false) = or_parts _ _ none in
    ap (take (suc k)) (less-head x y ys false parts.0) ∙ ap (λ zs. y ∷ zs) (take-miss x k ys parts.1)

pub asks-shorter : (x : Object) (k : ℕ) (ys : List Object) → asks_for x (take (suc k) ys) ≡ false → asks_for x (take k ys) ≡ false
asks-shorter x zero ys none = refl
asks-shorter x (suc k) [] none = refl
asks-shorter x (suc k) (y ∷ ys) none =
    let parts : (same_object x y ≡ false) × (asks_for x (take (suc k) ys) ≡ false) = or_parts _ _ none in
    or_from _ _ parts.0 (asks-shorter x k ys parts.1)
