-- What a terminal may be sent.
use Rattle.std.specs.Prelude.{◌≡◌, ℕ, ◌/◌, ◌%◌, ◌==◌, nat_le, nat_lt, Bool, ◌&&◌, ◌||◌, List, [], ◌∷◌, ◌++◌, All, false, if◌then◌else◌, codes, chars, flat_map}
use Rattle.std.specs.Char.{digit_char, is_control}
use Rattle.std.specs.Str.{encode_utf8_all}

-- a code is in a range
abbrev pub is_between : ℕ → ℕ → ℕ → Bool
is_between first last c = nat_le first c && nat_le c last

-- a letter that a terminal obeys and doesn't show: a control character, one that ends a line or a paragraph, and one that turns the direction of the text
abbrev pub is_hidden : ℕ → Bool
is_hidden c = is_control c || (c == 1564) || is_between 8206 8207 c || is_between 8232 8238 c || is_between 8294 8297 c

-- a text of letters of which none is hidden
abbrev pub IsShown : List ℕ → Type 0
IsShown text = (letters : List ℕ) × (encode_utf8_all letters ≡ text) × All (λ c. is_hidden c ≡ false) letters

-- the last two digits of a code to the base 16
abbrev pub two_digits : ℕ → List ℕ
two_digits code = digit_char (code / 16 % 16) ∷ digit_char (code % 16) ∷ []

-- a letter as it is shown: itself, but a hidden one as \x and the two digits of its code, or as \u and four of them
abbrev pub shown_letter : ℕ → List ℕ
shown_letter c =
    if is_hidden c then (if nat_lt c 256 then codes "\\x" ++ two_digits c else codes "\\u" ++ (two_digits (c / 256) ++ two_digits c)) else c ∷ []

-- a text as it is shown, letter by letter
abbrev pub shown_text : List ℕ → List ℕ
shown_text text = encode_utf8_all (flat_map shown_letter (chars text))
