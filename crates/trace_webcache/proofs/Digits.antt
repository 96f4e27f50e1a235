-- Words of digits.
use Rattle.std.proofs.Common.{◌≡◌, ℕ, ◌^◌, ◌<◌, ◌≤◌, ◌==◌, ◌∙◌, List, ◌∷◌, true, false, length, take, drop, get_or, refl, sym, ap, Ok, arith, get_or-drop, length-drop, add-zero}
use Rattle.std.specs.Prelude.{◌||◌}
use Rattle.std.specs.Char.{is_ascii_digit}
use Rattle.std.specs.List.{list_all}
use Rattle.std.proofs.lemmas.Bool.Decides.{nat_tests}
use Rattle.std.proofs.lemmas.List.{get_or-take, length-take-le}
use Rattle.bound_base.specs.Digits.{number_of, value_after}
use Rattle.bound_base.proofs.Decimal.{digit_range, each_digit, read_digits}
use Rattle.trace_lines.specs.Lines.{is_gap, words}
use Rattle.trace_lines.proofs.Cuts.{parts-leading}

-- a digit is no gap
no_gap : (byte : ℕ) → is_ascii_digit byte ≡ true → is_gap byte ≡ false
no_gap byte digit =
    let range = digit_range byte digit in
    let no_space : (byte == 32) ≡ false = grind (arith, nat_tests, range) in
    let no_tab : (byte == 9) ≡ false = grind (arith, nat_tests, range) in
    rw (no_space, no_tab) refl

-- what a test for the end of a word says of the byte that stands there
gap_at : (rest : List ℕ) → (length rest == 0 || is_gap (get_or rest 0 0)) ≡ true → 0 < length rest → is_gap (get_or rest 0 0) ≡ true
gap_at rest ends some =
    let no : (length rest == 0) ≡ false = grind (arith, nat_tests) in
    rw no at ends

-- the first word, if it begins with digits and ends after them
pub word_read : (line text rest : List ℕ) (len value : ℕ) → words text ≡ words line → rest ≡ drop len text → len ≤ length text → 0 < len → list_all is_ascii_digit (take len text) ≡ true
    → value ≡ value_after 0 (take len text) → value < 2 ^ 64 → (length rest == 0 || is_gap (get_or rest 0 0)) ≡ true
    → (word : List ℕ) × (words line ≡ word ∷ words rest) × (Ok value ≡ number_of (2 ^ 64) word)
word_read line text rest len value same rest_is within some digits is below ends =
    let word = take len text in
    let size : length word ≡ len = omega (arith, length-take-le len text within) in
    let inside : (i : ℕ) → i < len → is_gap (get_or text i 0) ≡ false = (λ i low. rw (sym (get_or-take len text i 0 low)) (no_gap (get_or word i 0) (each_digit word i digits (omega (arith, size, low))))) in
    let after : len < length text → is_gap (get_or text len 0) ≡ true =
    (λ more. rw (sym (ap (λ n. get_or text n 0) (add-zero len)), sym (get_or-drop len text 0 0), sym rest_is) (gap_at rest ends (omega (arith, ap length rest_is, length-drop len text, more)))) in
    let cut : words text ≡ word ∷ words (drop len text) = parts-leading is_gap text len some within inside after in
    (word, sym same ∙ rw rest_is cut, rw is (sym (read_digits (2 ^ 64) word (omega (arith, size, some)) digits (omega (arith, is, below)))))
