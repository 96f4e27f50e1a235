-- Weak duality by recursion on the trace, without indices.
use Rattle.std.proofs.Common.{◌≡◌, ℕ, suc, ◌+◌, ◌-◌, ◌*◌, ◌≤◌, Bool, true, false, cond, not, ◌&&◌, ◌||◌, eqb, List, [], ◌∷◌, length, refl, ap, arith, ⊎_elim, sum, sum_by, filter}
use Rattle.std.proofs.Math.Nat.{mul-le-mul_right}
use Rattle.std.specs.List.{IsDistinct, AllByRecursion}
use Rattle.std.proofs.lemmas.Bool.{eqb-true, eq-eqb, and_parts, and_from, or_cases, or_left, or_right, cond_both}
use Rattle.std.proofs.lemmas.List.Sums.{sum_by-cons}
use Rattle.cache_model.specs.declared.objects.Object.{Object}
use Rattle.cache_model.specs.Claim.{same_object, holds}

object_of : ℕ → ℕ → ℕ → Object
object_of v i s = record { volume = v; id = i; size = s }

pub same_object-true : (x y : Object) → same_object x y ≡ true → x ≡ y
unfolding object_of
same_object-true x y h =
    let p : ((eqb x.volume y.volume && eqb x.id y.id) ≡ true) × (eqb x.size y.size ≡ true) = and_parts _ _ h in
    let q : (eqb x.volume y.volume ≡ true) × (eqb x.id y.id ≡ true) = and_parts _ _ p.0 in
    let a : x.volume ≡ y.volume = eqb-true x.volume y.volume q.0 in
    let b : x.id ≡ y.id = eqb-true x.id y.id q.1 in
    let c : x.size ≡ y.size = eqb-true x.size y.size p.1 in
    let e : object_of x.volume x.id x.size ≡ object_of y.volume y.id y.size = cc in e

pub same_object-refl : (x : Object) → same_object x x ≡ true
same_object-refl x = and_from _ _ (and_from _ _ (eq-eqb x.volume x.volume refl) (eq-eqb x.id x.id refl)) (eq-eqb x.size x.size refl)

-- whether the requests after the first count
abbrev pub after : (ℕ → Bool) → ℕ → Bool
after counted t = counted (suc t)

-- what a request earns: nothing if it doesn't count
abbrev pub earns_now : Bool → ℕ → ℕ
earns_now true n = n
earns_now false n = 0

-- what the interval from x in the contents to its next request is worth
abbrev pub worth : (ℕ → Bool) → (Object → ℕ) → (Object → ℕ) → List Object → List ℕ → Object → ℕ
worth counted g w [] prices x = 0
worth counted g w (r ∷ later) [] x = 0
worth counted g w (r ∷ later) (q ∷ prices) x = cond (same_object r x) (earns_now (counted 0) (g x)) (worth (after counted) g w later prices x - w x * q)

-- the same of each request, summed
abbrev pub extra : (ℕ → Bool) → (Object → ℕ) → (Object → ℕ) → List Object → List ℕ → ℕ
extra counted g w [] prices = 0
extra counted g w (r ∷ later) [] = 0
extra counted g w (r ∷ later) (q ∷ prices) = (worth (after counted) g w later prices r - w r * q) + extra (after counted) g w later prices

-- the contents but for r
abbrev pub without : Object → List Object → List Object
without r xs = filter (λ y. not (same_object r y)) xs

-- one step of the two lemmas below, at an object y of the list
abbrev pub keep : Bool → Object → List Object → List Object
keep t y ys = cond (not t) (y ∷ ys) ys

holds-keep : (r z y : Object) (ys : List Object) (t : Bool) → same_object r y ≡ t → same_object r z ≡ false → holds (y ∷ ys) z ≡ true → (holds ys z ≡ true → holds (without r ys) z ≡ true) → holds (keep t y (without r ys)) z ≡ true
holds-keep r z y ys true e apart h more =
    ⊎_elim
    (λ (same : same_object z y ≡ true). let ry : r ≡ y = same_object-true r y e in let zy : z ≡ y = same_object-true z y same in
    let s : same_object r r ≡ true = same_object-refl r in let rz : r ≡ z = cc in cc)
    more (or_cases _ _ h)
holds-keep r z y ys false e apart h more =
    ⊎_elim (λ (same : same_object z y ≡ true). or_left _ _ same) (λ (in_rest : holds ys z ≡ true). or_right _ _ (more in_rest)) (or_cases _ _ h)

pub holds-without : (r z : Object) (ys : List Object) → same_object r z ≡ false → holds ys z ≡ true → holds (without r ys) z ≡ true
holds-without r z [] apart h = h
holds-without r z (y ∷ ys) apart h = holds-keep r z y ys (same_object r y) refl apart h (holds-without r z ys apart)

pub sum_by-keep : (f : Object → ℕ) (x y : Object) (ys : List Object) (t : Bool) → same_object x y ≡ t → holds (y ∷ ys) x ≡ true → (holds ys x ≡ true → f x + sum_by f (without x ys) ≤ sum_by f ys) → sum_by f (without x ys) ≤ sum_by f ys → f x + sum_by f (keep t y (without x ys)) ≤ sum_by f (y ∷ ys)
sum_by-keep f x y ys true e h more less =
    let same : f x ≡ f y = ap f (same_object-true x y e) in
    omega (arith, sum_by-cons f y ys)
sum_by-keep f x y ys false e h more less =
    let in_rest : holds ys x ≡ true = ⊎_elim (λ (same : same_object x y ≡ true). cc) (λ t. t) (or_cases _ _ h) in
    omega (arith, more in_rest, sum_by-cons f y ys, sum_by-cons f y (without x ys))

pub sum_by-without-le : (f : Object → ℕ) (x : Object) (ys : List Object) → sum_by f (without x ys) ≤ sum_by f ys
sum_by-without-le f x [] = omega arith
sum_by-without-le f x (y ∷ ys) =
    cond_both (not (same_object x y)) (y ∷ without x ys) (without x ys) (λ zs. sum_by f zs ≤ sum_by f (y ∷ ys))
    (λ _. omega (arith, sum_by-without-le f x ys, sum_by-cons f y ys, sum_by-cons f y (without x ys)))
    (λ _. omega (arith, sum_by-without-le f x ys, sum_by-cons f y ys))

pub sum_by-without : (f : Object → ℕ) (x : Object) (ys : List Object) → holds ys x ≡ true → f x + sum_by f (without x ys) ≤ sum_by f ys
sum_by-without f x [] h = cc
sum_by-without f x (y ∷ ys) h = sum_by-keep f x y ys (same_object x y) refl h (sum_by-without f x ys) (sum_by-without-le f x ys)

-- contents without repeats, all of whose members are in ys, sum to at most ys
pub sum_by-subset : (f : Object → ℕ) (xs ys : List Object) → IsDistinct same_object xs → AllByRecursion (λ x. holds ys x ≡ true) xs → sum_by f xs ≤ sum_by f ys
unfolding IsDistinct
sum_by-subset f [] ys apart inside = omega arith
sum_by-subset f (x ∷ xs) ys apart inside =
    let rest : sum_by f xs ≤ sum_by f (without x ys) = sum_by-subset f xs (without x ys) apart.1 (all_without x ys xs apart.0 inside.1) in
    omega (arith, sum_by-cons f x xs, sum_by-without f x ys inside.0)
  where
    all_without : (r : Object) (ys zs : List Object) → AllByRecursion (λ y. same_object r y ≡ false) zs → AllByRecursion (λ z. holds ys z ≡ true) zs → AllByRecursion (λ z. holds (without r ys) z ≡ true) zs
    all_without r ys [] a b = b
    all_without r ys (z ∷ zs) a b = (holds-without r z ys a.0 b.0, all_without r ys zs a.1 b.1)

-- the prices of one step, over all members
pub sum_by-worth-le : (v w : Object → ℕ) (q : ℕ) (xs : List Object) → sum_by v xs ≤ sum_by w xs * q + sum_by (λ x. v x - w x * q) xs
sum_by-worth-le v w q [] = omega arith
sum_by-worth-le v w q (x ∷ xs) =
    omega (arith, sum_by-worth-le v w q xs, sum_by-cons v x xs, ap (λ n. n * q) (sum_by-cons w x xs), sum_by-cons (λ x. v x - w x * q) x xs)

-- what a hit earns, and the worth of the other members, is within the worth of the contents
pub hit-le : (earns g f : Object → ℕ) (r : Object) (held : List Object) → AllByRecursion (λ x. earns x ≤ g x) held
    → cond (holds held r) (earns r) 0 + sum_by f (without r held) ≤ sum_by (λ x. cond (same_object r x) (g x) (f x)) held
hit-le earns g f r [] enough = omega arith
hit-le earns g f r (y ∷ ys) enough = at (same_object r y) refl (hit-le earns g f r ys enough.1)
  where
    v : Object → ℕ
    v = λ x. cond (same_object r x) (g x) (f x)

    at : (t : Bool) → same_object r y ≡ t → cond (holds ys r) (earns r) 0 + sum_by f (without r ys) ≤ sum_by v ys → cond (t || holds ys r) (earns r) 0 + sum_by f (keep t y (without r ys)) ≤ sum_by v (y ∷ ys)
    at true e rest =
        let vy : v y ≡ g y = ap (λ b. cond b (g y) (f y)) e in
        let same : earns r ≡ earns y = ap earns (same_object-true r y e) in
        omega (arith, enough.0, sum_by-cons v y ys)
    at false e rest =
        let vy : v y ≡ f y = ap (λ b. cond b (g y) (f y)) e in
        omega (arith, sum_by-cons v y ys, sum_by-cons f y (without r ys))

-- a step of a play, at prices and weights: earns is what a hit earns, g what the bound counts for it
pub record IsStep (earns g w : Object → ℕ) (units : ℕ) (held : List Object) (r : Object) (next : List Object) : Type 0 where
  pub apart : IsDistinct same_object next
  pub inside : AllByRecursion (λ x. holds (r ∷ held) x ≡ true) next
  pub room : sum_by w next ≤ units
  pub counted : AllByRecursion (λ x. earns x ≤ g x) next

abbrev pub Follows : (earns g w : Object → ℕ) → ℕ → List Object → List Object → List (List Object) → Type 0
Follows earns g w units held [] nexts = Unit {0}
Follows earns g w units held (r ∷ later) [] = ⊥
Follows earns g w units held (r ∷ later) (next ∷ nexts) = IsStep earns g w units held r next × Follows earns g w units next later nexts

-- members of the next contents are r, or were held and are not r
pub inside-without : (r : Object) (held xs : List Object) → AllByRecursion (λ x. holds (r ∷ held) x ≡ true) xs → AllByRecursion (λ x. holds (r ∷ without r held) x ≡ true) xs
inside-without r held [] h = h
inside-without r held (x ∷ xs) h = (at (same_object r x) refl, inside-without r held xs h.1)
  where
    at : (t : Bool) → same_object r x ≡ t → holds (r ∷ without r held) x ≡ true
    at true e = let rx : r ≡ x = same_object-true r x e in let s : same_object x x ≡ true = same_object-refl x in let t : same_object x r ≡ true = cc in or_left _ _ t
    at false e =
        ⊎_elim (λ (same : same_object x r ≡ true). or_left _ _ same)
        (λ (in_held : holds held x ≡ true). or_right _ _ (holds-without r x held e in_held)) (or_cases _ _ h.0)

-- what the requests earn
abbrev pub earned : (ℕ → Bool) → (Object → ℕ) → List Object → List (List Object) → ℕ
earned counted earns [] contents = 0
earned counted earns (r ∷ later) [] = 0
earned counted earns (r ∷ later) (held ∷ nexts) = cond (counted 0 && holds held r) (earns r) 0 + earned (after counted) earns later nexts

-- the next request, and the others
earned-cons : (counted : ℕ → Bool) (earns : Object → ℕ) (r : Object) (later : List Object) (held : List Object) (nexts : List (List Object))
    → earned counted earns (r ∷ later) (held ∷ nexts) ≡ cond (holds held r) (earns_now (counted 0) (earns r)) 0 + earned (after counted) earns later nexts
earned-cons counted earns r later held nexts = ap (λ n. n + earned (after counted) earns later nexts) (at (counted 0) (holds held r))
  where
    at : (s t : Bool) → cond (s && t) (earns r) 0 ≡ cond t (earns_now s (earns r)) 0
    at true true = refl
    at true false = refl
    at false true = refl
    at false false = refl

-- no more than if it counts
earns_now-le : (t : Bool) (earns g : Object → ℕ) (held : List Object) → AllByRecursion (λ x. earns x ≤ g x) held → AllByRecursion (λ x. earns_now t (earns x) ≤ earns_now t (g x)) held
earns_now-le t earns g [] enough = tt
earns_now-le true earns g (x ∷ held) enough = (enough.0, earns_now-le true earns g held enough.1)
earns_now-le false earns g (x ∷ held) enough = (omega arith, earns_now-le false earns g held enough.1)

pub earned-le : (counted : ℕ → Bool) (earns g w : Object → ℕ) (units : ℕ) (trace : List Object) (prices : List ℕ) (held : List Object) (nexts : List (List Object))
    → length prices ≡ length trace → AllByRecursion (λ x. earns x ≤ g x) held → Follows earns g w units held trace nexts
    → earned counted earns trace (held ∷ nexts) ≤ units * sum prices + extra counted g w trace prices + sum_by (worth counted g w trace prices) held
earned-le counted earns g w units [] prices held nexts same enough play = omega arith
earned-le counted earns g w units (r ∷ later) [] held nexts same enough play = absurd (omega arith)
earned-le counted earns g w units (r ∷ later) (q ∷ prices) held [] same enough play = absurd play
earned-le counted earns g w units (r ∷ later) (q ∷ prices) held (next ∷ nexts) same enough play =
    let v : Object → ℕ = worth (after counted) g w later prices in
    let f : Object → ℕ = λ x. v x - w x * q in
    let step : IsStep earns g w units held r next = play.0 in
    let rest : earned (after counted) earns later (next ∷ nexts) ≤ units * sum prices + extra (after counted) g w later prices + sum_by v next =
    earned-le (after counted) earns g w units later prices next nexts (omega arith) step.counted play.1 in
    let split : sum_by v next ≤ sum_by w next * q + sum_by f next = sum_by-worth-le v w q next in
    let room : sum_by w next * q ≤ units * q = mul-le-mul_right q step.room in
    let inside : sum_by f next ≤ sum_by f (r ∷ without r held) = sum_by-subset f next (r ∷ without r held) step.apart (inside-without r held next step.inside) in
    let hit : cond (holds held r) (earns_now (counted 0) (earns r)) 0 + sum_by f (without r held) ≤ sum_by (worth counted g w (r ∷ later) (q ∷ prices)) held =
    hit-le (λ x. earns_now (counted 0) (earns x)) (λ x. earns_now (counted 0) (g x)) f r held (earns_now-le (counted 0) earns g held enough) in
    omega (
      arith,
      earned-cons counted earns r later held (next ∷ nexts),
      sum_by-cons f r (without r held),
      ap (λ n. units * n) (sum_by-cons (λ (n : ℕ). n) q prices),
    )
