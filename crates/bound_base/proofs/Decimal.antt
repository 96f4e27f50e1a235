-- Words of digits.
use Rattle.std.proofs.Common.{◌≡◌, ℕ, ◌+◌, ◌-◌, ◌*◌, ◌<◌, ◌≤◌, ◌==◌, ◌∙◌, List, [], ◌∷◌, ◌++◌, Bool, true, false, length, get_or, refl, sym, Ok, arith}
use Rattle.std.specs.Prelude.{nat_le}
use Rattle.std.specs.Char.{is_ascii_digit}
use Rattle.std.specs.List.{list_all, position_or_len}
use Rattle.std.proofs.lemmas.Bool.{true≢false, and_parts, leb-true, lt-ltb, le-ltb}
use Rattle.std.proofs.lemmas.Bool.Decides.{nat_tests}
use Rattle.std.proofs.lemmas.List.Folds.{list_all_at}
use Rattle.std.proofs.lemmas.List.Sums.{position_or_len_is}
use Rattle.bound_base.specs.Digits.{is_no_digit, number_of, value_after}

-- the codes of the digits
pub digit_range : (byte : ℕ) → is_ascii_digit byte ≡ true → (48 ≤ byte) × (byte ≤ 57)
digit_range byte digit =
    let ends = and_parts (nat_le 48 byte) (nat_le byte 57) digit in
    (leb-true 48 byte ends.0, leb-true byte 57 ends.1)

-- one more digit
pub value_after-append : (n : ℕ) (digits : List ℕ) (digit : ℕ) → value_after n (digits ++ digit ∷ []) ≡ 10 * value_after n digits + (digit - 48)
value_after-append n [] digit = refl
value_after-append n (first ∷ digits) digit = value_after-append (10 * n + (first - 48)) digits digit

-- each of some digits is one
pub each_digit : (word : List ℕ) (i : ℕ) → list_all is_ascii_digit word ≡ true → i < length word → is_ascii_digit (get_or word i 0) ≡ true
each_digit word i digits within = by (is_ascii_digit (get_or word i 0)) refl
  where
    by : (b : Bool) → is_ascii_digit (get_or word i 0) ≡ b → is_ascii_digit (get_or word i 0) ≡ true
    by true is = is
    by false is = absurd (true≢false (sym digits ∙ list_all_at is_ascii_digit word i 0 within is))

-- digits whose number is below the limit are read
pub read_digits : (limit : ℕ) (word : List ℕ) → 0 < length word → list_all is_ascii_digit word ≡ true → value_after 0 word < limit → number_of limit word ≡ Ok (value_after 0 word)
read_digits limit word some digits below =
    let long : (length word == 0) ≡ false = grind (arith, nat_tests) in
    let none : position_or_len is_no_digit word ≡ length word = position_or_len_is is_no_digit word (length word) 0 (omega arith) (λ i within. rw (each_digit word i digits within) refl) (λ past. absurd (omega arith)) in
    rw (long, none, le-ltb (length word) (length word) (omega arith), lt-ltb (value_after 0 word) limit below) refl
