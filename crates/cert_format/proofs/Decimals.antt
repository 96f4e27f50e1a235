-- Numbers and the digits that write them.
use Rattle.std.proofs.Common.{◌≡◌, ℕ, ◌+◌, ◌-◌, ◌*◌, ◌/◌, ◌%◌, ◌^◌, ◌≤◌, ◌<◌, ◌∙◌, sym, refl, ap, Bool, true, false, ◌||◌, ◌==◌, List, [], ◌∷◌, ◌++◌, length, take, get_or, arith, rules, decimal, inl, inr, ◌⊎◌}
use Rattle.std.specs.Prelude.{nat_lt}
use Rattle.std.specs.List.{list_all, list_any}
use Rattle.std.specs.Char.{is_ascii_digit}
use Rattle.std.proofs.lemmas.Bool.{true≢false, and_parts, and_from, or_cases, or_left, or_right, or_from, cases_lt, eqb-true, eq-eqb, lt-ltb, ltb-true, ne_eqb}
use Rattle.std.proofs.lemmas.List.{length-append, take_more, take_all, get_or_append_left}
use Rattle.std.proofs.lemmas.List.Folds.{list_all-append}
use Rattle.std.proofs.lemmas.Fmt.{decimal_digit, decimal_by_steps_wide, decimal_is_IsNumeral_wide, length-decimal-le_wide}
use Rattle.std.proofs.lemmas.Str.Parse.{IsNumeralModel, IsDigitsTest, FoldsDigits, numerals_by_fold}
use Rattle.bound_base.specs.Digits.{value_after}
use Rattle.bound_base.proofs.Decimal.{digit_range, value_after-append}
use Rattle.bound_base.proofs.Value.{value_after_at_least}
use Rattle.cache_model.specs.Texts.{keep_digit}
use Rattle.cert_format.specs.Grammar.{is_canonical, number_in}

-- the digit of a keep
pub keep_text : (keep : Bool) → decimal (keep_digit keep) ≡ (48 + keep_digit keep) ∷ []
keep_text true = decimal_digit 1 (omega arith)
keep_text false = decimal_digit 0 (omega arith)

digits_test : IsDigitsTest (λ ds. list_all is_ascii_digit ds ≡ true)
digits_test = search rules

folds : FoldsDigits value_after
folds = search rules

-- the digits and the number of this crate are those of std
pub own : IsNumeralModel (λ ds. list_all is_ascii_digit ds ≡ true) number_in
own = numerals_by_fold _ digits_test value_after folds

-- a number written and read again
pub number_in-decimal : (n : ℕ) → n < 10 ^ 64 → number_in (decimal n) ≡ n
number_in-decimal n small =
    let numeral = decimal_is_IsNumeral_wide n small in
    own.same (decimal n) numeral.0.1 ∙ numeral.1

pub digits-decimal : (n : ℕ) → n < 10 ^ 64 → list_all is_ascii_digit (decimal n) ≡ true
digits-decimal n small = own.from (decimal n) (decimal_is_IsNumeral_wide n small).0.1

-- digits of which the first is above 0 or the only one
abbrev Leads : ℕ → List ℕ → Type 0
Leads n ds = (0 < length ds) × (n < 10 → length ds ≡ 1) × (0 < n → 48 < get_or ds 0 0)

leads-decimal : (n : ℕ) → n < 10 ^ 64 → Leads n (decimal n)
leads-decimal n small = decimal_by_steps_wide Leads (λ m low. (omega arith, (λ _. refl), λ some. omega arith)) more n small
  where
    more : (m : ℕ) (ds : List ℕ) → 10 ≤ m → Leads (m / 10) ds → Leads m (ds ++ (48 + m % 10) ∷ [])
    more m ds high h = (omega (arith, length-append ds ((48 + m % 10) ∷ []), h.0), (λ low. absurd (omega arith)), λ some. rw (get_or_append_left ds ((48 + m % 10) ∷ []) 0 0 h.0) (h.2 (omega arith)))

pub canonical-decimal : (n : ℕ) → n < 10 ^ 64 → is_canonical (decimal n) ≡ true
canonical-decimal n small =
    let h = leads-decimal n small in
    and_from (list_all is_ascii_digit (decimal n)) _ (digits-decimal n small) (by (cases_lt 0 n) h)
  where
    by : 0 < n ⊎ n ≤ 0 → Leads n (decimal n) → ((length (decimal n) == 1) || nat_lt 48 (get_or (decimal n) 0 0)) ≡ true
    by (inl some) h = or_right (length (decimal n) == 1) _ (lt-ltb 48 (get_or (decimal n) 0 0) (h.2 some))
    by (inr zero') h = or_left (length (decimal n) == 1) _ (eq-eqb (length (decimal n)) 1 (h.1 (omega arith)))

pub some-decimal : (n : ℕ) → n < 10 ^ 64 → 0 < length (decimal n)
some-decimal n small = (leads-decimal n small).0

-- a byte below the digits is in no number
pub lacks-digits : (byte : ℕ) (ds : List ℕ) → byte < 48 → list_all is_ascii_digit ds ≡ true → list_any (λ b. b == byte) ds ≡ false
lacks-digits byte [] low digits = refl
lacks-digits byte (d ∷ ds) low digits =
    let parts = and_parts (is_ascii_digit d) (list_all is_ascii_digit ds) digits in
    or_from (d == byte) (list_any (λ b. b == byte) ds) (ne_eqb d byte (λ same. omega (arith, digit_range d parts.0, same, low))) (lacks-digits byte ds low parts.1)

-- a number of several digits without a leading 0 is 10 at least
two_digits : (x y : ℕ) (ds : List ℕ) → 48 < x → 10 ≤ number_in (x ∷ y ∷ ds)
two_digits x y ds above = omega (arith, value_after_at_least (10 * (10 * 0 + (x - 48)) + (y - 48)) ds)

-- what a canonical text has
canonical_parts : (word : List ℕ) → is_canonical word ≡ true → (list_all is_ascii_digit word ≡ true) × (0 < length word) × (1 < length word → 48 < get_or word 0 0)
canonical_parts word canonical =
    let parts = and_parts (list_all is_ascii_digit word) _ canonical in
    (parts.0, some word (or_cases (length word == 1) (nat_lt 48 (get_or word 0 0)) parts.1), first (or_cases (length word == 1) (nat_lt 48 (get_or word 0 0)) parts.1))
  where
    some : (word : List ℕ) → ((length word == 1) ≡ true) ⊎ (nat_lt 48 (get_or word 0 0) ≡ true) → 0 < length word
    some word (inl one) = omega (arith, eqb-true (length word) 1 one)
    some [] (inr above) = absurd (omega (arith, ltb-true 48 0 above))
    some (x ∷ xs) (inr above) = omega arith

    first : ((length word == 1) ≡ true) ⊎ (nat_lt 48 (get_or word 0 0) ≡ true) → 1 < length word → 48 < get_or word 0 0
    first (inl one) long = absurd (omega (arith, eqb-true (length word) 1 one, long))
    first (inr above) long = ltb-true 48 (get_or word 0 0) above

-- a canonical text of a number is these digits
abbrev Only : ℕ → List ℕ → Type 0
Only n ds = (word : List ℕ) → is_canonical word ≡ true → number_in word ≡ n → word ≡ ds

only_one : (n : ℕ) → n < 10 → Only n ((48 + n) ∷ [])
only_one n low [] canonical is = absurd (true≢false (sym canonical))
only_one n low (x ∷ []) canonical is =
    let digit = digit_range x (and_parts (is_ascii_digit x) true (canonical_parts (x ∷ []) canonical).0).0 in
    ap (λ d. d ∷ []) (omega (arith, digit, is))
only_one n low (x ∷ y ∷ xs) canonical is =
    let above = (canonical_parts (x ∷ y ∷ xs) canonical).2 (omega arith) in
    absurd (omega (arith, two_digits x y xs above, is, low))

only_more : (n : ℕ) (ds : List ℕ) → 10 ≤ n → Only (n / 10) ds → Only n (ds ++ (48 + n % 10) ∷ [])
only_more n ds high only word canonical is =
    let parts = canonical_parts word canonical in
    let size = length word - 1 in
    let prefix = take size word in
    let last = get_or word size 0 in
    let split : word ≡ prefix ++ last ∷ [] = sym (take_all (size + 1) word (omega arith)) ∙ take_more word size 0 (omega (arith, parts.1)) in
    let value : number_in word ≡ 10 * number_in prefix + (last - 48) = ap number_in split ∙ value_after-append 0 prefix last in
    let digits = and_parts (list_all is_ascii_digit prefix) _ (sym (list_all-append is_ascii_digit prefix (last ∷ [])) ∙ (ap (list_all is_ascii_digit) (sym split) ∙ parts.0)) in
    let digit = digit_range last (and_parts (is_ascii_digit last) true digits.1).0 in
    let some : 0 < length prefix = some_prefix prefix (omega (arith, value, is, high, digit)) in
    let first : 48 < get_or prefix 0 0 = rw (sym (get_or_append_left prefix (last ∷ []) 0 0 some) ∙ ap (λ w. get_or w 0 0) (sym split)) (parts.2 (omega (arith, ap length split, length-append prefix (last ∷ []), some))) in
    let prefix_canonical : is_canonical prefix ≡ true = and_from (list_all is_ascii_digit prefix) _ digits.0 (or_right (length prefix == 1) (nat_lt 48 (get_or prefix 0 0)) (lt-ltb 48 (get_or prefix 0 0) first)) in
    let here : prefix ≡ ds = only prefix prefix_canonical (omega (arith, value, is, digit)) in
    let there : last ≡ 48 + n % 10 = omega (arith, value, is, digit) in
    split ∙ (ap (λ f. f ++ last ∷ []) here ∙ ap (λ d. ds ++ d ∷ []) there)
  where
    some_prefix : (prefix : List ℕ) → 0 < number_in prefix → 0 < length prefix
    some_prefix [] above = absurd (omega (arith, above))
    some_prefix (x ∷ xs) above = omega arith

-- a canonical text is what its number is written as
pub decimal-number_in : (word : List ℕ) → is_canonical word ≡ true → number_in word < 10 ^ 64 → decimal (number_in word) ≡ word
decimal-number_in word canonical small = sym (decimal_by_steps_wide Only only_one only_more (number_in word) small word canonical refl)

pub length-decimal : (k n : ℕ) → 0 < k → n < 10 ^ k → n < 10 ^ 64 → length (decimal n) ≤ k
length-decimal k n some low small = length-decimal-le_wide k n some low small
