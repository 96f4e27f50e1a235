-- Numbers without leading zeros.
use Rattle.std.proofs.Common.{◌≡◌, ◌≢◌, ℕ, suc, ◌+◌, ◌≤◌, ◌<◌, ◌∙◌, refl, ap, Bool, true, false, not, cond, ◌&&◌, List, [], ◌∷◌, length, get_or, arith, ◌==◌, Some, None, Ok, Err, Option, Result, inl, inr, ◌⊎◌}
use Rattle.std.specs.Prelude.{if◌then◌else◌, position, nat_le, nat_lt}
use Rattle.std.specs.List.{list_all, position_or_len}
use Rattle.std.specs.Char.{is_ascii_digit}
use Rattle.std.proofs.lemmas.Bool.{and_from, and_left, and_right, and_parts, or_right, or_from, cases_lt, lt-ltb, le-ltb, le-leb, lt-leb, ltb-false, eqb-true, eqb-false, ne_eqb, cond_both, not-true}
use Rattle.std.proofs.lemmas.List.Folds.{list_all_at}
use Rattle.std.proofs.lemmas.List.Quantifiers.{position-Some}
use Rattle.std.proofs.lemmas.List.{nil_from_length}
use Rattle.bound_base.specs.Digits.{is_no_digit, number_of, checked_value, value_below, value_after}
use Rattle.bound_base.proofs.Decimal.{digit_range}
use Rattle.bound_base.specs.declared.digits.NumFault.{NumFault}
use Rattle.bound_base.specs.declared.digits.NumFault.TheVariants.{Empty, NotDigit, TooLarge}
use Rattle.cert_format.specs.declared.fault.TextKind.TheVariants.{Number, Range}
use Rattle.cert_format.specs.Kinds.{kind_of}
use Rattle.cert_format.specs.Grammar.{Within, is_canonical, number_in, number_fault}

-- what the answer of a reader of numbers says of a word
abbrev pub Says : ℕ → List ℕ → Result ℕ NumFault → Type 0
Says limit word (Ok value) = (list_all is_ascii_digit word ≡ true) × (0 < length word) × (value ≡ number_in word)
Says limit word (Err Empty) = word ≡ []
Says limit word (Err (NotDigit place)) = list_all is_ascii_digit word ≡ false
Says limit word (Err TooLarge) = (list_all is_ascii_digit word ≡ true) × (limit ≤ number_in word)

-- no place of a byte that is no digit
all_digits : (word : List ℕ) → length word ≤ position_or_len is_no_digit word → list_all is_ascii_digit word ≡ true
all_digits [] none = refl
all_digits (x ∷ xs) none =
    let first : is_ascii_digit x ≡ true = by x xs (is_ascii_digit x) refl none in
    let rest : length xs ≤ position_or_len is_no_digit xs = omega (arith, rw first at none) in
    and_from (is_ascii_digit x) (list_all is_ascii_digit xs) first (all_digits xs rest)
  where
    by : (x : ℕ) (xs : List ℕ) (b : Bool) → is_ascii_digit x ≡ b → length (x ∷ xs) ≤ position_or_len is_no_digit (x ∷ xs) → b ≡ true
    by x xs true e none = refl
    by x xs false e none = let short : suc (length xs) ≤ cond (not (not false)) (1 + position_or_len is_no_digit xs) 0 = rw e at none in absurd (omega (arith, short))

says_value : (limit : ℕ) (word : List ℕ) → 0 < length word → list_all is_ascii_digit word ≡ true → Says limit word (value_below limit word)
says_value limit word some digits = cond_both (nat_lt (value_after 0 word) limit) (Ok (value_after 0 word)) (Err TooLarge) (Says limit word) (λ below. (digits, some, refl)) (λ above. (digits, ltb-false (value_after 0 word) limit above))

says_checked : (limit : ℕ) (word : List ℕ) (o : Option ℕ) → 0 < length word → position is_no_digit word ≡ o → Says limit word (checked_value limit word o)
says_checked limit word (Some place) some found =
    let at = position-Some is_no_digit word place 0 found in
    list_all_at is_ascii_digit word place 0 at.0 (not_false at.1)
  where
    not_false : {b : Bool} → not b ≡ true → b ≡ false
    not_false {b} h = not-true b h
says_checked limit word None some none = says_value limit word some (all_digits word (past (cases_lt (position_or_len is_no_digit word) (length word))))
  where
    past : position_or_len is_no_digit word < length word ⊎ length word ≤ position_or_len is_no_digit word → length word ≤ position_or_len is_no_digit word
    past (inl before) =
        let some : cond true (Some (position_or_len is_no_digit word)) None ≡ None = rw (lt-ltb (position_or_len is_no_digit word) (length word) before) at none in
        cc
    past (inr all) = all

pub says : (limit : ℕ) (word : List ℕ) → Says limit word (number_of limit word)
says limit word = cond_both (length word == 0) (Err Empty) (checked_value limit word (position is_no_digit word)) (Says limit word)
    (λ empty. nil_from_length word (eqb-true (length word) 0 empty)) (λ some. says_checked limit word (position is_no_digit word) (above (length word) some) refl)
  where
    above : (n : ℕ) → (n == 0) ≡ false → 0 < n
    above n other = omega (arith, eqb-false n 0 other)

-- the number of a word by its digits, its first one and its value
pub leading_zero : (low high : ℕ) (word : List ℕ) → 1 < length word → get_or word 0 0 ≡ 48 → number_fault (Within low high) word ≡ Some Number
leading_zero low high word long zero =
    let not_canonical : is_canonical word ≡ false = canonical_false (list_all is_ascii_digit word) _ (or_from (length word == 1) (nat_lt 48 (get_or word 0 0)) (ne_eqb (length word) 1 (λ one. omega (arith, one))) (le-ltb 48 (get_or word 0 0) (omega (arith, zero)))) in
    rw not_canonical refl
  where
    canonical_false : (a b : Bool) → b ≡ false → (a && b) ≡ false
    canonical_false true b h = h
    canonical_false false b h = refl

pub no_digits : (low high : ℕ) (word : List ℕ) → list_all is_ascii_digit word ≡ false → number_fault (Within low high) word ≡ Some Number
no_digits low high word none =
    let not_canonical : is_canonical word ≡ false = and_left (list_all is_ascii_digit word) _ none in
    rw not_canonical refl

pub no_bytes : (low high : ℕ) (word : List ℕ) → word ≡ [] → number_fault (Within low high) word ≡ Some Number
no_bytes low high word none = rw none refl

-- a word of digits without a leading zero
canonical : (word : List ℕ) → list_all is_ascii_digit word ≡ true → 0 < length word → (1 < length word → get_or word 0 0 ≢ 48) → is_canonical word ≡ true
canonical [] digits some first = absurd (omega (arith, some))
canonical (x ∷ []) digits some first = and_from (list_all is_ascii_digit (x ∷ [])) true digits refl
canonical (x ∷ y ∷ xs) digits some first =
    let first_digit = and_parts (is_ascii_digit x) (list_all is_ascii_digit (y ∷ xs)) digits in
    let low = digit_range x first_digit.0 in
    let above : 48 < x = omega (arith, low, first (omega arith)) in
    and_from (list_all is_ascii_digit (x ∷ y ∷ xs)) _ digits (or_right (length (x ∷ y ∷ xs) == 1) (nat_lt 48 x) (lt-ltb 48 x above))

-- a word of digits without a leading zero is judged by its value
pub of_value : (low high : ℕ) (word : List ℕ) → list_all is_ascii_digit word ≡ true → 0 < length word → (1 < length word → get_or word 0 0 ≢ 48)
    → number_fault (Within low high) word ≡ (if nat_le low (number_in word) && nat_le (number_in word) high then None else Some Range)
of_value low high word digits some first = rw (canonical word digits some first) refl

pub in_range : (low high : ℕ) (word : List ℕ) → list_all is_ascii_digit word ≡ true → 0 < length word → (1 < length word → get_or word 0 0 ≢ 48) → low ≤ number_in word → number_in word ≤ high
    → number_fault (Within low high) word ≡ None
in_range low high word digits some first above below =
    of_value low high word digits some first ∙ rw (le-leb low (number_in word) above, le-leb (number_in word) high below) refl

pub below_range : (low high : ℕ) (word : List ℕ) → list_all is_ascii_digit word ≡ true → 0 < length word → (1 < length word → get_or word 0 0 ≢ 48) → number_in word < low
    → number_fault (Within low high) word ≡ Some Range
below_range low high word digits some first below = of_value low high word digits some first ∙ rw (lt-leb low (number_in word) below) refl

pub above_range : (low high : ℕ) (word : List ℕ) → list_all is_ascii_digit word ≡ true → 0 < length word → (1 < length word → get_or word 0 0 ≢ 48) → high < number_in word
    → number_fault (Within low high) word ≡ Some Range
above_range low high word digits some first above =
    of_value low high word digits some first ∙ (rw (lt-leb (number_in word) high above) (ap (λ b. if b then None else Some Range) (and_right (nat_le low (number_in word)) false refl)))

-- a word that writes no number of the type
pub refused : (low high limit : ℕ) (word : List ℕ) (fault : NumFault) → number_of limit word ≡ Err fault → high < limit → (1 < length word → get_or word 0 0 ≢ 48) → number_fault (Within low high) word ≡ Some (kind_of fault)
refused low high limit word Empty is below first = let said = rw is at (says limit word) in no_bytes low high word said
refused low high limit word (NotDigit place) is below first = let said = rw is at (says limit word) in no_digits low high word said
refused low high limit word TooLarge is below first =
    let said = rw is at (says limit word) in
    above_range low high word said.0 (some word (omega (arith, said.1, below))) first (omega (arith, said.1, below))
  where
    some : (word : List ℕ) → 0 < number_in word → 0 < length word
    some [] above = absurd (omega (arith, above))
    some (x ∷ xs) above = omega arith
