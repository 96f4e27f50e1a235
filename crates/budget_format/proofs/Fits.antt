-- Lines one after another, as they are written and as they are read.
use Rattle.std.proofs.Common.{◌≡◌, ℕ, zero, suc, ◌+◌, ◌≤◌, ◌<◌, ◌∙◌, sym, refl, ap, List, [], ◌∷◌, ◌++◌, append_assoc, length, get_or, false, ◌==◌, arith, None}
use Rattle.std.specs.Option.{option_map, option_or}
use Rattle.std.specs.List.{list_any}
use Rattle.std.proofs.lemmas.List.{length-append}
use Rattle.bound_io.specs.Lines.{text_len, first_text, after_line}
use Rattle.cache_model.specs.Texts.{line, text_of}
use Rattle.cert_format.specs.Grammar.{Slot, line_fault}
use Rattle.cert_format.specs.Readings.{after_lines, first_fault, in_line, lines_fault}
use Rattle.cert_format.proofs.Spellings.{IsLine}
use Rattle.cert_format.proofs.Prefixes.{HasLine, after_line-line, first_text-line, fits_first, text_len-line, whole_line}
use Rattle.cert_format.proofs.Headers.{after_lines-suc, no_either}

-- no line has an LF, and none is too long
abbrev pub IsWide : List ℕ → Type 0
IsWide text = (list_any (λ b. b == 10) text ≡ false) × (length text ≤ 65535)

pub wide : (text : List ℕ) → IsLine text → IsWide text
wide text is = (is.0, omega (arith, is.1))

-- a line without a fault at the beginning
pub wide_fits : (n : ℕ) (slots : List Slot) (t rest : List ℕ) → IsWide t → line_fault slots t ≡ None → first_fault n slots (line t ++ rest) ≡ None
wide_fits n slots t rest is fits =
    let size = text_len-line t rest is.0 in
    let whole : text_len (line t ++ rest) < length (line t ++ rest) = omega (arith, size, length-append (line t) rest, length-append t (10 ∷ [])) in
    whole_line n slots (line t ++ rest) whole (omega (arith, size, is.1)) ∙ ap (option_map (in_line n)) (ap (line_fault slots) (first_text-line t rest is.0) ∙ fits)

-- each line has no fault in its place
abbrev pub Fit : List (List Slot) → List (List ℕ) → Type 0
Fit [] [] = Unit {0}
Fit [] (t ∷ texts) = ⊥
Fit (slots ∷ lines) [] = ⊥
Fit (slots ∷ lines) (t ∷ texts) = IsWide t × (line_fault slots t ≡ None) × Fit lines texts

text_of-cons : (t : List ℕ) (texts : List (List ℕ)) (rest : List ℕ) → text_of (t ∷ texts) ++ rest ≡ line t ++ (text_of texts ++ rest)
text_of-cons t texts rest = append_assoc (line t) (text_of texts) rest

-- lines that fit have no fault
pub fit_none : (n : ℕ) (lines : List (List Slot)) (texts : List (List ℕ)) (rest : List ℕ) → Fit lines texts → lines_fault n lines (text_of texts ++ rest) ≡ None
fit_none n [] texts rest fit = refl
fit_none n (slots ∷ lines) [] rest fit = absurd fit
fit_none n (slots ∷ lines) (t ∷ texts) rest fit =
    let here : first_fault n slots (text_of (t ∷ texts) ++ rest) ≡ None = ap (first_fault n slots) (text_of-cons t texts rest) ∙ wide_fits n slots t (text_of texts ++ rest) fit.0 fit.1 in
    let there : after_line (text_of (t ∷ texts) ++ rest) ≡ text_of texts ++ rest = ap after_line (text_of-cons t texts rest) ∙ after_line-line t (text_of texts ++ rest) fit.0.0 in
    ap (λ o. option_or o (lines_fault (n + 1) lines (after_line (text_of (t ∷ texts) ++ rest)))) here ∙ (ap (lines_fault (n + 1) lines) there ∙ fit_none (n + 1) lines texts rest fit.2)

-- the text of each line, and what stands after them
pub text_at : (lines : List (List Slot)) (texts : List (List ℕ)) (rest : List ℕ) (k : ℕ) → Fit lines texts → k < length texts → first_text (after_lines k (text_of texts ++ rest)) ≡ get_or texts k []
unfolding after_lines
text_at [] [] rest k fit below = absurd (omega (arith, below))
text_at [] (t ∷ texts) rest k fit below = absurd fit
text_at (slots ∷ lines) [] rest k fit below = absurd fit
text_at (slots ∷ lines) (t ∷ texts) rest zero fit below = ap first_text (text_of-cons t texts rest) ∙ first_text-line t (text_of texts ++ rest) fit.0.0
text_at (slots ∷ lines) (t ∷ texts) rest (suc k) fit below =
    let there : after_line (text_of (t ∷ texts) ++ rest) ≡ text_of texts ++ rest = ap after_line (text_of-cons t texts rest) ∙ after_line-line t (text_of texts ++ rest) fit.0.0 in
    ap (λ b. first_text (after_lines k b)) there ∙ text_at lines texts rest k fit.2 (omega (arith, below))

pub after_texts : (lines : List (List Slot)) (texts : List (List ℕ)) (rest : List ℕ) → Fit lines texts → after_lines (length texts) (text_of texts ++ rest) ≡ rest
unfolding after_lines
after_texts [] [] rest fit = refl
after_texts [] (t ∷ texts) rest fit = absurd fit
after_texts (slots ∷ lines) [] rest fit = absurd fit
after_texts (slots ∷ lines) (t ∷ texts) rest fit =
    let there : after_line (text_of (t ∷ texts) ++ rest) ≡ text_of texts ++ rest = ap after_line (text_of-cons t texts rest) ∙ after_line-line t (text_of texts ++ rest) fit.0.0 in
    ap (after_lines (length texts)) there ∙ after_texts lines texts rest fit.2

-- each of these lines stands in its place, after the first k
abbrev pub Stand : List (List Slot) → ℕ → List ℕ → Type 0
Stand [] k bytes = Unit {0}
Stand (slots ∷ lines) k bytes = HasLine slots (after_lines k bytes) × Stand lines (suc k) bytes

pub lines_stand : (n k : ℕ) (lines : List (List Slot)) (bytes : List ℕ) → lines_fault n lines (after_lines k bytes) ≡ None → Stand lines k bytes
lines_stand n k [] bytes none = tt
lines_stand n k (slots ∷ lines) bytes none =
    let both = no_either (first_fault n slots (after_lines k bytes)) (lines_fault (n + 1) lines (after_line (after_lines k bytes))) none in
    (fits_first n slots (after_lines k bytes) both.0, lines_stand (n + 1) (suc k) lines bytes (ap (lines_fault (n + 1) lines) (after_lines-suc k bytes) ∙ both.1))

-- the texts of as many lines, after the first k
abbrev pub texts_in : List (List Slot) → ℕ → List ℕ → List (List ℕ)
texts_in [] k bytes = []
texts_in (slots ∷ lines) k bytes = first_text (after_lines k bytes) ∷ texts_in lines (suc k) bytes

-- the bytes are these lines and the rest
pub stand_text : (lines : List (List Slot)) (k : ℕ) (bytes : List ℕ) → Stand lines k bytes → after_lines k bytes ≡ text_of (texts_in lines k bytes) ++ after_lines (k + length (texts_in lines k bytes)) bytes
stand_text [] k bytes stand = let same : k ≡ k + 0 = omega arith in ap (λ n. after_lines n bytes) same
stand_text (slots ∷ lines) k bytes stand =
    let text = first_text (after_lines k bytes) in
    let others = texts_in lines (suc k) bytes in
    let same : suc k + length others ≡ k + suc (length others) = omega arith in
    let there : after_line (after_lines k bytes) ≡ text_of others ++ after_lines (k + suc (length others)) bytes
    = sym (after_lines-suc k bytes) ∙ (stand_text lines (suc k) bytes stand.1 ∙ ap (λ n. text_of others ++ after_lines n bytes) same) in
    stand.0.is ∙ (ap (λ b. line text ++ b) there ∙ sym (text_of-cons text others (after_lines (k + suc (length others)) bytes)))
