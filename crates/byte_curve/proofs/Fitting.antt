-- The longest prefix of a list of objects whose sizes fit a capacity together, and what one more request does to it.
use Rattle.std.proofs.Common.{◌≡◌, ℕ, ◌+◌, ◌-◌, ◌<◌, ◌≤◌, ◌∙◌, sym, refl, ap, ⊎_elim, Bool, true, false, not, ◌&&◌, ◌||◌, cond, leb, List, [], ◌∷◌, ◌++◌, arith}
use Rattle.std.specs.List.{AllByRecursion}
use Rattle.std.proofs.lemmas.Bool.{cases_Bool, cases_lt, and_from, and_left, and_right, and_parts, or_left, or_parts, le-leb, lt-leb, leb-true}
use Rattle.std.proofs.lemmas.List.Sums.{sum_by-cons}
use Rattle.cache_model.specs.declared.objects.Object.{Object}
use Rattle.cache_model.specs.Claim.{same_object, total_size}
use Rattle.cache_model.proofs.Duality.{same_object-true}
use Rattle.stack_curve.specs.Distances.{since}
use Rattle.stack_curve.proofs.Different.{asks_for, since-here, since-other}
use Rattle.stack_curve.proofs.Recent.{less, Distinct, less-none}

-- the longest prefix whose sizes sum to at most this room
abbrev pub fitting : ℕ → List Object → List Object
fitting room [] = []
fitting room (x ∷ xs) = cond (leb x.size room) (x ∷ fitting (room - x.size) xs) []

fitting-goes : (room : ℕ) (x : Object) (xs : List Object) → x.size ≤ room → fitting room (x ∷ xs) ≡ x ∷ fitting (room - x.size) xs
fitting-goes room x xs fits = ap (λ b. cond b (x ∷ fitting (room - x.size) xs) []) (le-leb x.size room fits)

fitting-stops : (room : ℕ) (x : Object) (xs : List Object) → room < x.size → fitting room (x ∷ xs) ≡ []
fitting-stops room x xs over = ap (λ b. cond b (x ∷ fitting (room - x.size) xs) []) (lt-leb x.size room over)

pub all-fitting : (P : Object → Type 0) (room : ℕ) (xs : List Object) → AllByRecursion P xs → AllByRecursion P (fitting room xs)
all-fitting P room [] each = tt
all-fitting P room (x ∷ xs) each = at (leb x.size room) (all-fitting P (room - x.size) xs each.1)
  where
    at : (b : Bool) → AllByRecursion P (fitting (room - x.size) xs) → AllByRecursion P (cond b (x ∷ fitting (room - x.size) xs) [])
    at true rest = (each.0, rest)
    at false rest = tt

less-at : (x y : Object) (ys : List Object) (b : Bool) → same_object x y ≡ b → less x (y ∷ ys) ≡ cond (not b) (y ∷ less x ys) (less x ys)
less-at x y ys b same = ap (λ s. cond (not s) (y ∷ less x ys) (less x ys)) same

asks-at_other : (x y : Object) (ys : List Object) → same_object x y ≡ false → asks_for x (y ∷ ys) ≡ asks_for x ys
asks-at_other x y ys other = ap (λ b. b || asks_for x ys) other

-- the sizes down to x itself
abbrev pub down_to : Object → List Object → ℕ
down_to x ys = total_size (since x ys) + x.size

down_to-here : (x y : Object) (ys : List Object) → same_object x y ≡ true → down_to x (y ∷ ys) ≡ y.size
down_to-here x y ys same =
    let e : x ≡ y = same_object-true x y same in
    omega (arith, ap total_size (since-here x y ys same), ap (λ (z : Object). z.size) e)

down_to-other : (x y : Object) (ys : List Object) → same_object x y ≡ false → down_to x (y ∷ ys) ≡ y.size + down_to x ys
down_to-other x y ys other = omega (arith, ap total_size (since-other x y ys other), sum_by-cons (λ (z : Object). z.size) y (since x ys))

leb-less : (m n room : ℕ) → n ≤ room → leb m (room - n) ≡ leb (n + m) room
leb-less m n room fits =
    ⊎_elim
    (λ (over : room < n + m). lt-leb m (room - n) (omega arith) ∙ sym (lt-leb (n + m) room over))
    (λ (within : n + m ≤ room). le-leb m (room - n) (omega arith) ∙ sym (le-leb (n + m) room within))
    (cases_lt room (n + m))

-- x is in it exactly if it stands in the list and the sizes down to it fit
pub asks-fitting : (x : Object) (room : ℕ) (ys : List Object) → asks_for x (fitting room ys) ≡ (asks_for x ys && leb (down_to x ys) room)
asks-fitting x room [] = refl
asks-fitting x room (y ∷ ys) =
    ⊎_elim
    (λ (here : same_object x y ≡ true).
    ⊎_elim
    (λ (over : room < y.size).
    ap (asks_for x) (fitting-stops room y ys over)
    ∙ sym (and_right (asks_for x (y ∷ ys)) _ (lt-leb (down_to x (y ∷ ys)) room (omega (arith, down_to-here x y ys here)))))
    (λ (fits : y.size ≤ room).
    ap (asks_for x) (fitting-goes room y ys fits) ∙ or_left (same_object x y) (asks_for x (fitting (room - y.size) ys)) here
    ∙ sym (and_from (asks_for x (y ∷ ys)) _ (or_left (same_object x y) (asks_for x ys) here) (le-leb (down_to x (y ∷ ys)) room (omega (arith, down_to-here x y ys here)))))
    (cases_lt room y.size))
    (λ (other : same_object x y ≡ false).
    ⊎_elim
    (λ (over : room < y.size).
    ap (asks_for x) (fitting-stops room y ys over)
    ∙ sym (and_right (asks_for x (y ∷ ys)) _ (lt-leb (down_to x (y ∷ ys)) room (omega (arith, down_to-other x y ys other)))))
    (λ (fits : y.size ≤ room).
    ap (asks_for x) (fitting-goes room y ys fits) ∙ asks-at_other x y (fitting (room - y.size) ys) other ∙ asks-fitting x (room - y.size) ys
    ∙ ap (λ b. asks_for x ys && b) (leb-less (down_to x ys) y.size room fits ∙ ap (λ n. leb n room) (sym (down_to-other x y ys other)))
    ∙ ap (λ b. b && leb (down_to x (y ∷ ys)) room) (sym (asks-at_other x y ys other)))
    (cases_lt room y.size))
    (cases_Bool (same_object x y))

fitting-none : (x : Object) (room : ℕ) (ys : List Object) → asks_for x ys ≡ false → asks_for x (fitting room ys) ≡ false
fitting-none x room ys none = asks-fitting x room ys ∙ and_left (asks_for x ys) (leb (down_to x ys) room) none

fitting-size : (x : Object) (room : ℕ) (ys : List Object) → asks_for x (fitting room ys) ≡ true → x.size ≤ room
fitting-size x room ys there =
    let both : (asks_for x ys ≡ true) × (leb (down_to x ys) room ≡ true) = and_parts (asks_for x ys) (leb (down_to x ys) room) (sym (asks-fitting x room ys) ∙ there) in
    let fits : down_to x ys ≤ room = leb-true (down_to x ys) room both.1 in
    omega arith

-- one that is larger is not
pub fitting-large : (x : Object) (room : ℕ) (ys : List Object) → room < x.size → asks_for x (fitting room ys) ≡ false
fitting-large x room ys large = asks-fitting x room ys ∙ and_right (asks_for x ys) (leb (down_to x ys) room) (lt-leb (down_to x ys) room (omega arith))

-- where it is in the prefix, the others of the prefix are those that fit behind it
pub fitting-hit : (x : Object) (room : ℕ) (ys : List Object) → Distinct ys → asks_for x (fitting room ys) ≡ true → less x (fitting room ys) ≡ fitting (room - x.size) (less x ys)
fitting-hit x room [] apart there = cc
fitting-hit x room (y ∷ ys) apart there =
    ⊎_elim
    (λ (over : room < y.size). let none : asks_for x (fitting room (y ∷ ys)) ≡ false = ap (asks_for x) (fitting-stops room y ys over) in cc)
    (λ (fits : y.size ≤ room).
    let goes : fitting room (y ∷ ys) ≡ y ∷ fitting (room - y.size) ys = fitting-goes room y ys fits in
    ⊎_elim
    (λ (same : same_object x y ≡ true).
    let e : x ≡ y = same_object-true x y same in
    let gone : asks_for x ys ≡ false = ap (λ z. asks_for z ys) e ∙ apart.0 in
    ap (less x) goes ∙ less-at x y (fitting (room - y.size) ys) true same
    ∙ less-none x (fitting (room - y.size) ys) (fitting-none x (room - y.size) ys gone)
    ∙ ap (λ (z : Object). fitting (room - z.size) ys) (sym e)
    ∙ ap (fitting (room - x.size)) (sym (less-at x y ys true same ∙ less-none x ys gone)))
    (λ (other : same_object x y ≡ false).
    let later : asks_for x (fitting (room - y.size) ys) ≡ true = sym (ap (asks_for x) goes ∙ asks-at_other x y (fitting (room - y.size) ys) other) ∙ there in
    let small : x.size ≤ room - y.size = fitting-size x (room - y.size) ys later in
    let order : room - y.size - x.size ≡ room - x.size - y.size = omega arith in
    ap (less x) goes ∙ less-at x y (fitting (room - y.size) ys) false other
    ∙ ap (λ zs. y ∷ zs) (fitting-hit x (room - y.size) ys apart.1 later ∙ ap (λ n. fitting n (less x ys)) order)
    ∙ sym (ap (fitting (room - x.size)) (less-at x y ys false other) ∙ fitting-goes (room - x.size) y (less x ys) (omega arith)))
    (cases_Bool (same_object x y)))
    (cases_lt room y.size)

-- where it is not, what fits behind it is in the prefix
pub fitting-miss : (x : Object) (room : ℕ) (ys : List Object) → x.size ≤ room → asks_for x (fitting room ys) ≡ false
    → fitting (room - x.size) (less x ys) ≡ fitting (room - x.size) (fitting room ys)
fitting-miss x room [] small none = refl
fitting-miss x room (y ∷ ys) small none =
    ⊎_elim
    (λ (over : room < y.size).
    ⊎_elim
    (λ (same : same_object x y ≡ true).
    let e : x ≡ y = same_object-true x y same in
    let size : x.size ≡ y.size = ap (λ (z : Object). z.size) e in
    absurd (omega arith))
    (λ (other : same_object x y ≡ false).
    ap (fitting (room - x.size)) (less-at x y ys false other) ∙ fitting-stops (room - x.size) y (less x ys) (omega arith)
    ∙ sym (ap (fitting (room - x.size)) (fitting-stops room y ys over)))
    (cases_Bool (same_object x y)))
    (λ (fits : y.size ≤ room).
    let goes : fitting room (y ∷ ys) ≡ y ∷ fitting (room - y.size) ys = fitting-goes room y ys fits in
    let parts : (same_object x y ≡ false) × (asks_for x (fitting (room - y.size) ys) ≡ false) =
    or_parts (same_object x y) (asks_for x (fitting (room - y.size) ys)) (sym (ap (asks_for x) goes) ∙ none) in
    let order : room - y.size - x.size ≡ room - x.size - y.size = omega arith in
    ap (fitting (room - x.size)) (less-at x y ys false parts.0)
    ∙ ⊎_elim
    (λ (over : room - x.size < y.size). fitting-stops (room - x.size) y (less x ys) over ∙ sym (fitting-stops (room - x.size) y (fitting (room - y.size) ys) over))
    (λ (both : y.size ≤ room - x.size).
    fitting-goes (room - x.size) y (less x ys) both
    ∙ ap (λ n. y ∷ fitting n (less x ys)) (sym order)
    ∙ ap (λ zs. y ∷ zs) (fitting-miss x (room - y.size) ys (omega arith) parts.1)
    ∙ ap (λ n. y ∷ fitting n (fitting (room - y.size) ys)) order
    ∙ sym (fitting-goes (room - x.size) y (fitting (room - y.size) ys) both))
    (cases_lt (room - x.size) y.size)
    ∙ sym (ap (fitting (room - x.size)) goes))
    (cases_lt room y.size)

-- whole lists
pub fitting-all : (room : ℕ) (xs : List Object) → total_size xs ≤ room → fitting room xs ≡ xs
fitting-all room [] within = refl
fitting-all room (x ∷ xs) within =
    let sum : total_size (x ∷ xs) ≡ x.size + total_size xs = sum_by-cons (λ (z : Object). z.size) x xs in
    fitting-goes room x xs (omega arith) ∙ ap (λ zs. x ∷ zs) (fitting-all (room - x.size) xs (omega arith))

-- the last of them does not fit
pub fitting-last : (room : ℕ) (xs : List Object) (x : Object) → room < total_size xs + x.size → fitting room (xs ++ x ∷ []) ≡ fitting room xs
fitting-last room [] x over = fitting-stops room x [] (omega arith)
fitting-last room (y ∷ ys) x over =
    ⊎_elim
    (λ (stops : room < y.size). fitting-stops room y (ys ++ x ∷ []) stops ∙ sym (fitting-stops room y ys stops))
    (λ (fits : y.size ≤ room).
    let sum : total_size (y ∷ ys) ≡ y.size + total_size ys = sum_by-cons (λ (z : Object). z.size) y ys in
    fitting-goes room y (ys ++ x ∷ []) fits ∙ ap (λ zs. y ∷ zs) (fitting-last (room - y.size) ys x (omega arith)) ∙ sym (fitting-goes room y ys fits))
    (cases_lt room y.size)
