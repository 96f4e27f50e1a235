-- The place of an element with a key, in a list that grows at its end, and the number that is stored for it.
use Rattle.std.proofs.Common.{◌≡◌, ℕ, ◌+◌, ◌<◌, ◌∙◌, sym, ap, refl, subst, Bool, true, false, cond, List, [], ◌∷◌, ◌++◌, length, get_or, set, arith, ⊎_elim, ◌==◌, All}
use Rattle.std.specs.Prelude.{Some, None, position}
use Rattle.std.specs.List.{position_from}
use Rattle.std.proofs.lemmas.Bool.{cases_eq, eq-eqb, ne_eqb, cond-false}
use Rattle.std.proofs.lemmas.List.{get_or-set_same, get_or-set_other, length-set}
use Rattle.std.proofs.lemmas.List.Elements.{All-head, All-tail}
use Rattle.std.proofs.lemmas.Iterator.Adapters.{position_from-zero}
use Rattle.cache_model.specs.declared.intervals.Interval.{Interval}
use Rattle.interval_maker.specs.Stored.{named, no_number, AreNumbers}

-- an element that fails the test changes no place
from_push_other : {X : Type 0} (p : X → Bool) (i : ℕ) (xs : List X) (y : X) → p y ≡ false → position_from p i (xs ++ y ∷ []) ≡ position_from p i xs
from_push_other p i [] y fails = ap (λ b. cond b (Some i) None) fails
from_push_other p i (x ∷ xs) y fails = ap (λ o. cond (p x) (Some i) o) (from_push_other p (i + 1) xs y fails)

-- the first that passes stands at the end
from_push_first : {X : Type 0} (p : X → Bool) (i : ℕ) (xs : List X) (y : X) → p y ≡ true → All (λ x. p x ≡ false) xs → position_from p i (xs ++ y ∷ []) ≡ Some (i + length xs)
from_push_first p i [] y passes none = ap (λ b. cond b (Some i) None) passes ∙ ap Some (omega arith)
from_push_first p i (x ∷ xs) y passes none =
    ap (λ b. cond b (Some i) (position_from p (i + 1) (xs ++ y ∷ []))) (All-head (λ z. p z ≡ false) x xs none)
    ∙ from_push_first p (i + 1) xs y passes (All-tail (λ z. p z ≡ false) x xs none)
    ∙ ap Some (omega arith)

-- where none passes there is no place
from_none : {X : Type 0} (p : X → Bool) (i : ℕ) (xs : List X) → All (λ x. p x ≡ false) xs → position_from p i xs ≡ None
from_none p i [] none = refl
from_none p i (x ∷ xs) none =
    ap (λ b. cond b (Some i) (position_from p (i + 1) xs)) (All-head (λ z. p z ≡ false) x xs none) ∙ from_none p (i + 1) xs (All-tail (λ z. p z ≡ false) x xs none)

pub position_push_other : {X : Type 0} (p : X → Bool) (xs : List X) (y : X) → p y ≡ false → position p (xs ++ y ∷ []) ≡ position p xs
position_push_other p xs y fails = position_from-zero p (xs ++ y ∷ []) ∙ from_push_other p 0 xs y fails ∙ sym (position_from-zero p xs)

pub position_push_first : {X : Type 0} (p : X → Bool) (xs : List X) (y : X) → p y ≡ true → All (λ x. p x ≡ false) xs → position p (xs ++ y ∷ []) ≡ Some (length xs)
position_push_first p xs y passes none = position_from-zero p (xs ++ y ∷ []) ∙ from_push_first p 0 xs y passes none ∙ ap Some (omega arith)

pub position_none : {X : Type 0} (p : X → Bool) (xs : List X) → All (λ x. p x ≡ false) xs → position p xs ≡ None
position_none p xs none = position_from-zero p xs ∙ from_none p 0 xs none

-- a number below the mark of no interval is named
named_some : (n : ℕ) → n < no_number → named n ≡ Some n
named_some n low = cond-false (n == no_number) None (Some n) (ne_eqb n no_number (λ same. omega arith))

-- where an interval is added, its number is stored at its key, which no interval before it has
pub numbers_more : (key : Interval → ℕ) (items : List Interval) (i : Interval) (numbers : List ℕ)
    → AreNumbers key items numbers → key i < length numbers → length items < no_number → All (λ j. (key j == key i) ≡ false) items
    → AreNumbers key (items ++ i ∷ []) (set numbers (key i) (length items))
numbers_more key items i numbers so_far within few apart = λ t lt.
    let in_range : t < length numbers = omega (arith, length-set {A = ℕ} numbers (key i) (length items)) in
    ⊎_elim
    (λ (same : t ≡ key i).
    let passes : (key i == t) ≡ true = eq-eqb (key i) t (sym same) in
    let none : All (λ j. (key j == t) ≡ false) items = subst (λ n. All (λ j. (key j == n) ≡ false) items) (sym same) apart in
    let read : get_or (set numbers (key i) (length items)) t 0 ≡ length items = ap (λ n. get_or (set numbers (key i) (length items)) n 0) same ∙ get_or-set_same numbers (key i) (length items) 0 within in
    ap named read ∙ named_some (length items) few ∙ sym (position_push_first (λ j. key j == t) items i passes none))
    (λ (differs : t ≡ key i → ⊥).
    let fails : (key i == t) ≡ false = ne_eqb (key i) t (λ same. differs (sym same)) in
    let read : get_or (set numbers (key i) (length items)) t 0 ≡ get_or numbers t 0 = get_or-set_other numbers (key i) t (length items) 0 differs in
    ap named read ∙ so_far t in_range ∙ sym (position_push_other (λ j. key j == t) items i fails))
    (cases_eq t (key i))
