-- Lines that are appended one by one.
use Rattle.std.proofs.Common.{◌≡◌, ◌∙◌, ℕ, ap, refl, List, [], ◌∷◌, ◌++◌, append_assoc, flat_map}
use Rattle.std.proofs.lemmas.List.Concat.{flat_map-append}
use Rattle.cache_model.specs.Texts.{line, text_of}

-- two lines, and the others behind them
pub two_lines : (t a b t1 t2 t3 : List ℕ) (rest : List (List ℕ))
    → t1 ≡ t ++ line a → t2 ≡ t1 ++ line b → t3 ≡ t2 ++ text_of rest
    → t3 ≡ t ++ text_of (a ∷ b ∷ rest)
two_lines t a b t1 t2 t3 rest is1 is2 is3 = rw (is3, is2, is1) (simp append_assoc)

-- the text of the lines of each is the texts of all
pub text_of_all : {A : Type 0} (f : A → List (List ℕ)) (xs : List A) → text_of (flat_map f xs) ≡ flat_map (λ x. text_of (f x)) xs
text_of_all f [] = refl
text_of_all f (x ∷ xs) = flat_map-append line (f x) (flat_map f xs) ∙ ap (λ rest. text_of (f x) ++ rest) (text_of_all f xs)
