-- The starts of an object: one of them has a property, and the greatest worth.
use Rattle.std.proofs.Common.{◌≡◌, ℕ, ◌+◌, ◌-◌, ◌≤◌, ◌⊎◌, inl, inr, ◌∙◌, refl, ap, max, Bool, true, false, not, ◌&&◌, cond, nat_le, List, [], ◌∷◌, arith, fold, map, filter}
use Rattle.std.specs.List.{AllByRecursion}
use Rattle.std.proofs.Math.Nat.{le-max_left, le-max_right, max-le}
use Rattle.std.proofs.lemmas.Bool.{and_parts, both_ways}
use Rattle.ttl_laws.specs.Runs.{HasOne, Start, worth, with_gain, with_price, Walk, going_on, with_request}

pub one-map : {X Y : Type 0} (P : X → Type 0) (Q : Y → Type 0) (f : X → Y) (xs : List X)
    → ((x : X) → P x → Q (f x)) → HasOne P xs → HasOne Q (map f xs)
one-map P Q f [] so one = one
one-map P Q f (x ∷ xs) so (inl here) = inl (so x here)
one-map P Q f (x ∷ xs) so (inr there) = inr (one-map P Q f xs so there)

pub one-filter : {X : Type 0} (P : X → Type 0) (p : X → Bool) (xs : List X)
    → ((x : X) → P x → p x ≡ true) → HasOne P xs → HasOne P (filter p xs)
one-filter P p [] passes one = one
one-filter P p (x ∷ xs) passes one = at (p x) refl (one-filter P p xs passes) one
  where
    at : (b : Bool) → p x ≡ b → (HasOne P xs → HasOne P (filter p xs)) → P x ⊎ HasOne P xs
        → HasOne P (cond b (x ∷ filter p xs) (filter p xs))
    at true e later (inl here) = inl here
    at true e later (inr there) = inr (later there)
    at false e later (inl here) = absurd (both_ways (p x) e (passes x here))
    at false e later (inr there) = later there

-- the greatest is none below the first, and none below any
pub greatest-first : (a : ℕ) (xs : List ℕ) → a ≤ fold max a xs
greatest-first a [] = omega arith
greatest-first a (x ∷ xs) = omega (arith, le-max_left a x, greatest-first (max a x) xs)

pub greatest-any : (a n : ℕ) (xs : List ℕ) → HasOne (λ x. n ≤ x) xs → n ≤ fold max a xs
greatest-any a n [] one = absurd one
greatest-any a n (x ∷ xs) (inl here) = omega (arith, here, le-max_right a x, greatest-first (max a x) xs)
greatest-any a n (x ∷ xs) (inr there) = greatest-any (max a x) n xs there

-- and is within what all are
pub greatest-le : (a m : ℕ) (xs : List ℕ) → a ≤ m → AllByRecursion (λ x. x ≤ m) xs → fold max a xs ≤ m
greatest-le a m [] low all = low
greatest-le a m (x ∷ xs) low all = greatest-le (max a x) m xs (max-le low all.0) all.1

-- a start at this clock of which a run earned enough: what the object earned so far is within what was paid for it and what the run adds
abbrev pub IsEnough : ℕ → ℕ → ℕ → Start → Type 0
IsEnough written earned paid s = (s.clock ≡ written) × (earned + s.priced ≤ paid + (s.before + s.earned))

-- so it is within the greatest worth
pub enough-le : (written earned paid : ℕ) (starts : List Start)
    → HasOne (IsEnough written earned paid) starts → earned ≤ paid + fold max 0 (map worth starts)
enough-le written earned paid starts one =
    let most : earned - paid ≤ fold max 0 (map worth starts)
    = greatest-any 0 (earned - paid) (map worth starts)
    (one-map (IsEnough written earned paid) (λ n. earned - paid ≤ n) worth starts (λ s so. omega (arith, so.1)) one) in
    omega (arith, most)

-- whether the request is a fresh hit, of an object that was held or not
abbrev pub is_hit : Bool → Bool → ℕ → ℕ → Bool
is_hit was fills now until = was && not fills && nat_le now until

module _ (written earned paid : ℕ) (was fills next : Bool) (now ttl gain : ℕ) (w : Walk)
    (top_enough : earned ≤ paid + w.top)
    (start_enough : was ≡ true → HasOne (IsEnough written earned paid) w.starts) where
  abbrev hit : Bool
  hit = is_hit was fills now (written + ttl)

  abbrev after : Walk
  after = with_request fills now ttl gain w

  -- the run that hits goes on
  goes_on : hit ≡ true → HasOne (IsEnough written (earned + gain) paid) (going_on fills now ttl gain w.starts)
  goes_on e =
      let fresh : ((was && not fills) ≡ true) × (nat_le now (written + ttl) ≡ true) = and_parts _ _ e in
      let held : (was ≡ true) × (not fills ≡ true) = and_parts _ _ fresh.0 in
      at fills held.1 (start_enough held.0) fresh.1
    where
      at : (f : Bool) → not f ≡ true → HasOne (IsEnough written earned paid) w.starts → nat_le now (written + ttl) ≡ true
          → HasOne (IsEnough written (earned + gain) paid) (going_on f now ttl gain w.starts)
      at true asks one low = absurd (both_ways false refl asks)
      at false asks one low =
          one-map (IsEnough written earned paid) (IsEnough written (earned + gain) paid) (with_gain gain)
          (filter (λ s. nat_le now (s.clock + ttl)) w.starts) (λ s so. (so.0, omega (arith, so.1)))
          (one-filter (IsEnough written earned paid) (λ s. nat_le now (s.clock + ttl)) w.starts
          (λ s so. ap (λ c. nat_le now (c + ttl)) so.0 ∙ low) one)

  -- a run starts there
  starts_anew : HasOne (IsEnough now earned paid) after.starts
  starts_anew = inl (refl, omega (arith, top_enough))

  -- what the object earned by now is within the greatest worth
  pub request-top : earned + cond hit gain 0 ≤ paid + after.top
  request-top = at hit refl
    where
      at : (b : Bool) → hit ≡ b → earned + cond b gain 0 ≤ paid + after.top
      at true e = enough-le written (earned + gain) paid after.starts (inr (goes_on e))
      at false e = omega (arith, enough-le now earned paid after.starts starts_anew)

  -- and if it is held now, within what the run from the last write adds
  pub request-start : next ≡ true
      → HasOne (IsEnough (cond (next && not hit) now written) (earned + cond hit gain 0) paid) after.starts
  request-start held = at next held hit refl
    where
      at : (n : Bool) → n ≡ true → (b : Bool) → hit ≡ b
          → HasOne (IsEnough (cond (n && not b) now written) (earned + cond b gain 0) paid) after.starts
      at true is true e = inr (goes_on e)
      at true is false e = inl (refl, omega (arith, top_enough))
      at false is b e = absurd (both_ways false refl is)

-- over a step, whose price is paid if the object is held
pub step-start : (written earned earned_now paid paid_now price : ℕ) (starts : List Start)
    → earned_now ≡ earned → paid_now ≡ paid + price → HasOne (IsEnough written earned paid) starts
    → HasOne (IsEnough written earned_now paid_now) (map (with_price price) starts)
step-start written earned earned_now paid paid_now price starts same more =
    one-map (IsEnough written earned paid) (IsEnough written earned_now paid_now) (with_price price) starts
    (λ s so. (so.0, omega (arith, so.1, same, more)))
