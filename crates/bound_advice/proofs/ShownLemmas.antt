-- Texts as they are shown, letter by letter.
use Rattle.std.proofs.Common.{◌≡◌, ◌∙◌, ap, sym, refl, arith, ℕ, ◌+◌, ◌/◌, ◌%◌, ◌<◌, List, [], ◌∷◌, ◌++◌, Bool, true, false, cond, if◌then◌else◌, nat_lt, codes, All, flat_map, encode_utf8_all}
use Rattle.std.specs.Char.{digit_char}
use Rattle.std.proofs.lemmas.Bool.Decides.{nat_tests}
use Rattle.std.proofs.lemmas.List.{flat_map_more}
use Rattle.std.proofs.lemmas.List.Elements.{All-append, All-cons, All-nil}
use Rattle.std.proofs.lemmas.Str.{encodes-append}
use Rattle.bound_advice.specs.Shown.{IsShown, is_hidden, shown_letter, two_digits}

-- one letter more, as the letters that it is shown by
pub flat_map-shown : (letters : List ℕ) (c : ℕ)
    → encode_utf8_all (flat_map shown_letter letters) ++ encode_utf8_all (shown_letter c) ≡ encode_utf8_all (flat_map shown_letter (letters ++ c ∷ []))
flat_map-shown letters c =
    sym (encodes-append (flat_map shown_letter letters) (shown_letter c)) ∙ ap encode_utf8_all (flat_map_more shown_letter [] letters c)

-- a letter that is not hidden
abbrev IsPrinted : ℕ → Type 0
IsPrinted c = is_hidden c ≡ false

-- a digit is not hidden
digit-printed : (d : ℕ) → d < 16 → IsPrinted (digit_char d)
digit-printed d small = at (nat_lt d 10) refl
  where
    at : (b : Bool) → nat_lt d 10 ≡ b → IsPrinted (cond b (48 + d) (87 + d))
    at true is = grind (arith, nat_tests)
    at false is = grind (arith, nat_tests)

digits-printed : (code : ℕ) → All IsPrinted (two_digits code)
digits-printed code =
    All-cons IsPrinted (digit_char (code / 16 % 16)) (digit_char (code % 16) ∷ []) (digit-printed (code / 16 % 16) (omega arith))
    (All-cons IsPrinted (digit_char (code % 16)) [] (digit-printed (code % 16) (omega arith)) (All-nil IsPrinted))

-- nor is a letter by which the code of another is shown
code-printed : (c : ℕ) (short : Bool)
    → All IsPrinted (if short then codes "\\x" ++ two_digits c else codes "\\u" ++ (two_digits (c / 256) ++ two_digits c))
code-printed c true = All-cons IsPrinted 92 (120 ∷ two_digits c) refl (All-cons IsPrinted 120 (two_digits c) refl (digits-printed c))
code-printed c false =
    let both = two_digits (c / 256) ++ two_digits c in
    All-cons IsPrinted 92 (117 ∷ both) refl
    (All-cons IsPrinted 117 both refl (All-append IsPrinted (two_digits (c / 256)) (two_digits c) (digits-printed (c / 256)) (digits-printed c)))

letter-printed : (c : ℕ) (hidden : Bool) → is_hidden c ≡ hidden
    → All IsPrinted (if hidden then (if nat_lt c 256 then codes "\\x" ++ two_digits c else codes "\\u" ++ (two_digits (c / 256) ++ two_digits c)) else c ∷ [])
letter-printed c false is = All-cons IsPrinted c [] is (All-nil IsPrinted)
letter-printed c true is = code-printed c (nat_lt c 256)

letters-printed : (letters : List ℕ) → All IsPrinted (flat_map shown_letter letters)
letters-printed [] = All-nil IsPrinted
letters-printed (c ∷ letters) =
    All-append IsPrinted (shown_letter c) (flat_map shown_letter letters) (letter-printed c (is_hidden c) refl) (letters-printed letters)

-- what is shown has no letter that is hidden
pub IsShown-shown : (letters : List ℕ) → IsShown (encode_utf8_all (flat_map shown_letter letters))
IsShown-shown letters = (flat_map shown_letter letters, refl, letters-printed letters)
