-- A list is gone through, and what passes a test is mapped onto another list.
use Rattle.std.proofs.Common.{◌≡◌, ◌∙◌, ℕ, ◌+◌, ◌<◌, sym, ap, arith, Bool, true, false, cond, List, [], ◌∷◌, ◌++◌, length, map, filter, take, drop, get_or, count_by, append-nil}
use Rattle.std.proofs.lemmas.List.{map-append}
use Rattle.std.proofs.lemmas.List.Elements.{filter_more}
use Rattle.std.proofs.lemmas.List.Sums.{sum_by-drop_more}

-- one more element passes
pub map_filter-pass : {X Y : Type 0} (f : X → Y) (p : X → Bool) (xs : List X) (i : ℕ) (d : X) (ys zs : List Y) (y : Y) → i < length xs → p (get_or xs i d) ≡ true → y ≡ f (get_or xs i d)
    → ys ≡ map f (filter p (take i xs)) → zs ≡ ys ++ y ∷ [] → zs ≡ map f (filter p (take (i + 1) xs))
map_filter-pass f p xs i d ys zs y within passes is made more =
    let x = get_or xs i d in
    let step : filter p (take (i + 1) xs) ≡ filter p (take i xs) ++ x ∷ [] = rw passes at (filter_more p xs i d within) in
    more ∙ ap (λ v. ys ++ v ∷ []) is ∙ ap (λ l. l ++ f x ∷ []) made ∙ sym (map-append f (filter p (take i xs)) (x ∷ [])) ∙ ap (map f) (sym step)

-- one more element doesn't pass
pub map_filter-skip : {X Y : Type 0} (f : X → Y) (p : X → Bool) (xs : List X) (i : ℕ) (d : X) (ys zs : List Y) → i < length xs → p (get_or xs i d) ≡ false
    → ys ≡ map f (filter p (take i xs)) → zs ≡ ys → zs ≡ map f (filter p (take (i + 1) xs))
map_filter-skip f p xs i d ys zs within fails made same =
    let step : filter p (take (i + 1) xs) ≡ filter p (take i xs) ++ [] = rw fails at (filter_more p xs i d within) in
    same ∙ made ∙ ap (map f) (sym (step ∙ append-nil (filter p (take i xs))))

-- what is left to pass, if the next element passes
pub count_by-drop_pass : {X : Type 0} (p : X → Bool) (xs : List X) (i : ℕ) (d : X) → i < length xs → p (get_or xs i d) ≡ true → count_by p (drop i xs) ≡ count_by p (drop (i + 1) xs) + 1
count_by-drop_pass p xs i d within passes = omega (arith, sum_by-drop_more (λ x. cond (p x) 1 0) xs i d within, ap {B = ℕ} (λ b. cond b 1 0) passes)

-- and where that doesn't pass
pub count_by-drop_skip : {X : Type 0} (p : X → Bool) (xs : List X) (i : ℕ) (d : X) → i < length xs → p (get_or xs i d) ≡ false → count_by p (drop i xs) ≡ count_by p (drop (i + 1) xs)
count_by-drop_skip p xs i d within fails = omega (arith, sum_by-drop_more (λ x. cond (p x) 1 0) xs i d within, ap {B = ℕ} (λ b. cond b 1 0) fails)
