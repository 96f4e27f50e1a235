-- Lines that are appended to lines.
use Rattle.std.proofs.Common.{◌≡◌, ◌∙◌, ℕ, ap, sym, List, [], ◌∷◌, ◌++◌, append_assoc, append-nil}
use Rattle.std.proofs.lemmas.List.Concat.{flat_map-append}
use Rattle.cache_model.specs.Texts.{line, text_of}

text_of-append : (lines : List (List ℕ)) (words : List ℕ) → text_of (lines ++ words ∷ []) ≡ text_of lines ++ line words
text_of-append [] words = append-nil (line words)
text_of-append (first ∷ lines) words = ap (λ text. line first ++ text) (text_of-append lines words) ∙ sym (append_assoc (line first) (text_of lines) (line words))

-- one line more
pub one_more : (lines : List (List ℕ)) (words : List ℕ) (old new : List ℕ) → old ≡ text_of lines → new ≡ old ++ line words → new ≡ text_of (lines ++ words ∷ [])
one_more lines words old new was is = is ∙ (ap (λ text. text ++ line words) was ∙ sym (text_of-append lines words))

-- two lines after others
pub then_two : (lines others : List (List ℕ)) (a b : List ℕ) → ((lines ++ others) ++ a ∷ []) ++ b ∷ [] ≡ lines ++ (others ++ a ∷ b ∷ [])
then_two lines others a b = append_assoc (lines ++ others) (a ∷ []) (b ∷ []) ∙ append_assoc lines others (a ∷ b ∷ [])

-- more lines
pub more_lines : (lines others : List (List ℕ)) (old new : List ℕ) → old ≡ text_of lines → new ≡ old ++ text_of others → new ≡ text_of (lines ++ others)
more_lines lines others old new was is = is ∙ (ap (λ text. text ++ text_of others) was ∙ sym (flat_map-append line lines others))
