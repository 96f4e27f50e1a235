-- Facts of lists by their places, and of ranges of steps.
use Rattle.std.proofs.Common.{◌≡◌, ◌≢◌, ℕ, suc, zero, ◌+◌, ◌<◌, ◌≤◌, ◌∙◌, refl, ap, sym, Bool, true, ◌&&◌, List, [], ◌∷◌, length, get_or, arith, ⊎_elim}
use Rattle.std.specs.List.{range_with_len, list_all, AllZip}
use Rattle.std.proofs.lemmas.Bool.{cases_eq, and_parts, and_from}

-- what holds at each place of two lists of one length
pub AllZip-from_get_or : {A B : Type 0} (R : A → B → Type 0) (d : A) (e : B) (xs : List A) (ys : List B) → length xs ≡ length ys → ((k : ℕ) → k < length xs → R (get_or xs k d) (get_or ys k e)) → AllZip R xs ys
AllZip-from_get_or R d e [] [] same each = tt
AllZip-from_get_or R d e [] (y ∷ ys) same each = absurd (omega arith)
AllZip-from_get_or R d e (x ∷ xs) [] same each = absurd (omega arith)
AllZip-from_get_or R d e (x ∷ xs) (y ∷ ys) same each = (each 0 (omega arith), AllZip-from_get_or R d e xs ys (omega arith) (λ k low. each (suc k) (omega arith)))

-- and the other way
pub get_or-AllZip : {A B : Type 0} (R : A → B → Type 0) (d : A) (e : B) (xs : List A) (ys : List B) (k : ℕ) → AllZip R xs ys → k < length xs → R (get_or xs k d) (get_or ys k e)
get_or-AllZip R d e [] ys k all low = absurd (omega arith)
get_or-AllZip R d e (x ∷ xs) [] k all low = absurd all
get_or-AllZip R d e (x ∷ xs) (y ∷ ys) zero all low = all.0
get_or-AllZip R d e (x ∷ xs) (y ∷ ys) (suc k) all low = get_or-AllZip R d e xs ys k all.1 (omega arith)

-- two tests that agree at each number of a range
pub list_all-agree : (p q : ℕ → Bool) (a n : ℕ) → ((t : ℕ) → a ≤ t → t < a + n → p t ≡ q t) → list_all p (range_with_len a n) ≡ list_all q (range_with_len a n)
list_all-agree p q a zero agree = refl
list_all-agree p q a (suc n) agree =
    ap (λ s. s && list_all p (range_with_len (a + 1) n)) (agree a (omega arith) (omega arith))
    ∙ ap (λ s. q a && s) (list_all-agree p q (a + 1) n (λ t low high. agree t (omega arith) (omega arith)))

-- a test that passes at all numbers of a range passes at each
pub list_all-at : (p : ℕ → Bool) (a n t : ℕ) → list_all p (range_with_len a n) ≡ true → a ≤ t → t < a + n → p t ≡ true
list_all-at p a zero t all low high = absurd (omega arith)
list_all-at p a (suc n) t all low high =
    let parts = and_parts (p a) (list_all p (range_with_len (a + 1) n)) all in
    ⊎_elim
    (λ (e : a ≡ t). ap p (sym e) ∙ parts.0)
    (λ (ne : a ≢ t). list_all-at p (a + 1) n t parts.1 (omega arith) (omega arith))
    (cases_eq a t)

-- a test that passes at each number of a range passes at all
pub list_all-from : (p : ℕ → Bool) (a n : ℕ) → ((t : ℕ) → a ≤ t → t < a + n → p t ≡ true) → list_all p (range_with_len a n) ≡ true
list_all-from p a zero each = refl
list_all-from p a (suc n) each =
    and_from (p a) (list_all p (range_with_len (a + 1) n)) (each a (omega arith) (omega arith)) (list_all-from p (a + 1) n (λ t low high. each t (omega arith) (omega arith)))

-- what follows from what holds at each place
pub AllZip-weaker : {A B : Type 0} (R S : A → B → Type 0) → ((a : A) (b : B) → R a b → S a b) → (xs : List A) (ys : List B) → AllZip R xs ys → AllZip S xs ys
AllZip-weaker R S f [] [] h = tt
AllZip-weaker R S f [] (y ∷ ys) h = h
AllZip-weaker R S f (x ∷ xs) [] h = h
AllZip-weaker R S f (x ∷ xs) (y ∷ ys) h = (f x y h.0, AllZip-weaker R S f xs ys h.1)
