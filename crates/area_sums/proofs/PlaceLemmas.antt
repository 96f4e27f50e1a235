-- The first of ascending capacities that holds an object.
use Rattle.std.proofs.Common.{◌≡◌, ℕ, zero, suc, ◌+◌, ◌-◌, ◌<◌, ◌≤◌, ◌⊎◌, inl, inr, sym, ap, ◌∙◌, Bool, true, false, cond, ltb, leb, List, [], ◌∷◌, length, get_or, count_by, arith}
use Rattle.std.specs.List.Sorted.{IsPartitionPoint, IsStrictlyIncreasing, IsNonDecreasing}
use Rattle.std.proofs.lemmas.Bool.{cases_lt, lt-ltb, le-ltb, lt-leb, le-leb}
use Rattle.std.proofs.lemmas.List.Sorted.{IsNonDecreasingBy-from_default}
use Rattle.std.proofs.lemmas.List.Sums.{sum_by-cons}
use Rattle.area_sums.specs.Groups.{place_of}

-- so many elements pass at most, and at least
count-most : (p : ℕ → Bool) (xs : List ℕ) (i : ℕ) → ((k : ℕ) → i ≤ k → k < length xs → p (get_or xs k 0) ≡ false) → count_by p xs ≤ i
count-most p [] i none = omega arith
count-most p (x ∷ xs) zero none =
    omega (arith, sum_by-cons (λ x. cond (p x) 1 0) x xs, ap {B = ℕ} (λ b. cond b 1 0) (none 0 (omega arith) (omega arith)), count-most p xs 0 (λ k a b. none (suc k) (omega arith) (omega arith)))
count-most p (x ∷ xs) (suc i) none =
    omega (arith, sum_by-cons (λ x. cond (p x) 1 0) x xs, one (p x), count-most p xs i (λ k a b. none (suc k) (omega arith) (omega arith)))
  where
    one : (b : Bool) → cond b 1 0 ≤ 1
    one true = omega arith
    one false = omega arith

count-least : (p : ℕ → Bool) (xs : List ℕ) (i : ℕ) → i ≤ length xs → ((k : ℕ) → k < i → p (get_or xs k 0) ≡ true) → i ≤ count_by p xs
count-least p xs zero within all = omega arith
count-least p [] (suc i) within all = absurd (omega arith)
count-least p (x ∷ xs) (suc i) within all =
    omega (arith, sum_by-cons (λ x. cond (p x) 1 0) x xs, ap {B = ℕ} (λ b. cond b 1 0) (all 0 (omega arith)), count-least p xs i (omega arith) (λ k a. all (suc k) (omega arith)))

-- a partition point is the place
pub point-place : (capacities : List ℕ) (size place : ℕ) → place ≤ length capacities
    → IsPartitionPoint (λ c. ltb c size ≡ true) (λ c. ltb c size ≡ false) capacities place → place ≡ place_of capacities size
point-place capacities size place within point =
    let most = count-most (λ c. ltb c size) capacities place (λ k high low. point.1 k 0 high low) in
    let least = count-least (λ c. ltb c size) capacities place within (λ k low. point.0 k 0 (omega arith) low) in
    omega arith

-- ascending capacities grow
pub ascends : (capacities : List ℕ) → IsStrictlyIncreasing capacities → (i more : ℕ) → i + more < length capacities → get_or capacities i 0 ≤ get_or capacities (i + more) 0
ascends capacities rises i zero within = let e : i + 0 ≡ i = omega arith in omega (arith, ap (λ k. get_or capacities k 0) e)
ascends capacities rises i (suc more) within =
    let e : i + suc more ≡ i + more + 1 = omega arith in
    omega (arith, ap (λ k. get_or capacities k 0) e, rises (i + more) (omega arith), ascends capacities rises i more (omega arith))

pub ascends_to : (capacities : List ℕ) → IsStrictlyIncreasing capacities → (i j : ℕ) → i ≤ j → j < length capacities → get_or capacities i 0 ≤ get_or capacities j 0
ascends_to capacities rises i j order within =
    let more : ℕ = j - i in
    let e : i + more ≡ j = omega arith in
    omega (arith, ap (λ k. get_or capacities k 0) e, ascends capacities rises i more (omega arith))

pub does_not_fall : (capacities : List ℕ) → IsStrictlyIncreasing capacities → IsNonDecreasing capacities
does_not_fall capacities rises = IsNonDecreasingBy-from_default (λ x. x) capacities 0 (ascends_to capacities rises)

-- the place of a size is at most p exactly if the capacity at p holds it
pub place-le : (capacities : List ℕ) → IsStrictlyIncreasing capacities → (size p : ℕ) → p < length capacities
    → leb (place_of capacities size) p ≡ leb size (get_or capacities p 0)
place-le capacities rises size p within = by (cases_lt (get_or capacities p 0) size)
  where
    by : (get_or capacities p 0 < size) ⊎ (size ≤ get_or capacities p 0) → leb (place_of capacities size) p ≡ leb size (get_or capacities p 0)
    by (inl small) =
        let later = count-least (λ c. ltb c size) capacities (p + 1) (omega arith)
        (λ k low. lt-ltb (get_or capacities k 0) size (omega (arith, ascends_to capacities rises k p (omega arith) within))) in
        lt-leb (place_of capacities size) p (omega arith) ∙ sym (lt-leb size (get_or capacities p 0) small)
    by (inr large) =
        let early = count-most (λ c. ltb c size) capacities p
        (λ k high low. le-ltb (get_or capacities k 0) size (omega (arith, ascends_to capacities rises p k high low))) in
        le-leb (place_of capacities size) p early ∙ sym (le-leb size (get_or capacities p 0) large)
