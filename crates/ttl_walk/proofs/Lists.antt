-- What holds of all elements of a list, or of one, and the greatest of numbers.
use Rattle.std.proofs.Common.{◌≡◌, ℕ, ◌≤◌, ◌⊎◌, inl, inr, refl, max, Bool, true, false, cond, List, [], ◌∷◌, ◌++◌, arith, fold, map, filter}
use Rattle.std.specs.List.{AllByRecursion}
use Rattle.std.proofs.Math.Nat.{le-max_right}
use Rattle.ttl_laws.specs.Runs.{HasOne}
use Rattle.ttl_laws.proofs.Starts.{greatest-first}

pub all-more : {X : Type 0} (P Q : X → Type 0) (xs : List X)
    → ((x : X) → P x → Q x) → AllByRecursion P xs → AllByRecursion Q xs
all-more P Q [] so all = tt
all-more P Q (x ∷ xs) so all = (so x all.0, all-more P Q xs so all.1)

pub all-append : {X : Type 0} (P : X → Type 0) (xs : List X) (y : X)
    → AllByRecursion P xs → P y → AllByRecursion P (xs ++ y ∷ [])
all-append P [] y all here = (here, tt)
all-append P (x ∷ xs) y all here = (all.0, all-append P xs y all.1 here)

pub all-init : {X : Type 0} (P : X → Type 0) (xs : List X) (y : X)
    → AllByRecursion P (xs ++ y ∷ []) → AllByRecursion P xs × P y
all-init P [] y all = (tt, all.0)
all-init P (x ∷ xs) y all = let rest = all-init P xs y all.1 in ((all.0, rest.0), rest.1)

pub one-more : {X : Type 0} (P Q : X → Type 0) (xs : List X) → ((x : X) → P x → Q x) → HasOne P xs → HasOne Q xs
one-more P Q [] so one = one
one-more P Q (x ∷ xs) so (inl here) = inl (so x here)
one-more P Q (x ∷ xs) so (inr there) = inr (one-more P Q xs so there)

pub one-last : {X : Type 0} (P : X → Type 0) (xs : List X) (y : X) → P y → HasOne P (xs ++ y ∷ [])
one-last P [] y here = inl here
one-last P (x ∷ xs) y here = inr (one-last P xs y here)

-- one that doesn't pass the test gives way to a last one
pub one-joined : {X : Type 0} (P C : X → Type 0) (p : X → Bool) (xs : List X) (y : X)
    → AllByRecursion C xs → ((x : X) → C x → P x → p x ≡ false → P y) → HasOne P xs → HasOne P (filter p xs ++ y ∷ [])
one-joined P C p [] y all so one = absurd one
one-joined P C p (x ∷ xs) y all so one = at (p x) refl (one-joined P C p xs y all.1 so) one
  where
    at : (b : Bool) → p x ≡ b → (HasOne P xs → HasOne P (filter p xs ++ y ∷ [])) → P x ⊎ HasOne P xs
        → HasOne P (cond b (x ∷ filter p xs) (filter p xs) ++ y ∷ [])
    at true e later (inl here) = inl here
    at true e later (inr there) = inr (later there)
    at false e later (inl here) = one-last P (filter p xs) y (so x all.0 here e)
    at false e later (inr there) = later there

-- what follows of an element with both properties
pub from-one : {X : Type 0} (P Q : X → Type 0) (R : Type 0) (xs : List X)
    → ((x : X) → P x → Q x → R) → AllByRecursion P xs → HasOne Q xs → R
from-one P Q R [] so all one = absurd one
from-one P Q R (x ∷ xs) so all (inl here) = so x all.0 here
from-one P Q R (x ∷ xs) so all (inr there) = from-one P Q R xs so all.1 there

-- all are within the greatest
pub all-le-greatest : {X : Type 0} (f : X → ℕ) (a m : ℕ) (xs : List X) → fold max a (map f xs) ≤ m → AllByRecursion (λ x. f x ≤ m) xs
all-le-greatest f a m [] low = tt
all-le-greatest f a m (x ∷ xs) low =
    (omega (arith, low, le-max_right a (f x), greatest-first (max a (f x)) (map f xs)), all-le-greatest f (max a (f x)) m xs low)
