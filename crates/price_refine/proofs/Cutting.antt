-- The arcs of a block's instance, made interval by interval.
use Rattle.std.proofs.Common.{◌≡◌, ◌∙◌, ℕ, ◌+◌, ◌<◌, ◌≤◌, ap, sym, Bool, true, false, cond, List, [], ◌∷◌, ◌++◌, length, filter, flat_map, take, get_or, append-nil}
use Rattle.std.proofs.lemmas.List.{take_all}
use Rattle.std.proofs.lemmas.List.Concat.{flat_map-append}
use Rattle.std.proofs.lemmas.List.Elements.{filter_more}

-- one more element that passes the test
pub flat_map-pass : {X Y : Type 0} (f : X → List Y) (p : X → Bool) (xs : List X) (i : ℕ) (d : X) (ys zs : List Y) → i < length xs → p (get_or xs i d) ≡ true
    → ys ≡ flat_map f (filter p (take i xs)) → zs ≡ ys ++ f (get_or xs i d) → zs ≡ flat_map f (filter p (take (i + 1) xs))
flat_map-pass f p xs i d ys zs within passes before now =
    let x = get_or xs i d in
    let first = filter p (take i xs) in
    now ∙ ap (λ (ws : List _). ws ++ f x) before
    ∙ ap (λ (ws : List _). flat_map f first ++ ws) (sym (append-nil (f x)))
    ∙ sym (flat_map-append f first (x ∷ []))
    ∙ ap (λ t. flat_map f (first ++ cond t (x ∷ []) [])) (sym passes)
    ∙ sym (ap (flat_map f) (filter_more p xs i d within))

-- one more that does not
pub flat_map-skip : {X Y : Type 0} (f : X → List Y) (p : X → Bool) (xs : List X) (i : ℕ) (d : X) (ys : List Y) → i < length xs → p (get_or xs i d) ≡ false
    → ys ≡ flat_map f (filter p (take i xs)) → ys ≡ flat_map f (filter p (take (i + 1) xs))
flat_map-skip f p xs i d ys within fails before =
    let x = get_or xs i d in
    let first = filter p (take i xs) in
    before
    ∙ ap (flat_map f) (sym (append-nil first))
    ∙ ap (λ t. flat_map f (first ++ cond t (x ∷ []) [])) (sym fails)
    ∙ sym (ap (flat_map f) (filter_more p xs i d within))

-- once all are done
pub flat_map-all : {X Y : Type 0} (f : X → List Y) (p : X → Bool) (xs : List X) (i : ℕ) (ys : List Y) → length xs ≤ i → ys ≡ flat_map f (filter p (take i xs)) → ys ≡ flat_map f (filter p xs)
flat_map-all f p xs i ys past made = made ∙ ap (λ ws. flat_map f (filter p ws)) (take_all i xs past)
