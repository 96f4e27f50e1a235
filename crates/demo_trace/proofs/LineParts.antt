-- The parts of a line: three numbers with a space between each two.
use Rattle.std.proofs.Common.{◌≡◌, ℕ, ◌+◌, ◌-◌, ◌^◌, ◌≤◌, ◌<◌, ◌∙◌, sym, refl, ap, Bool, true, false, ◌==◌, List, [], ◌∷◌, ◌++◌, length, get_or, arith, decimal, append_assoc, codes, Ok}
use Rattle.std.specs.Prelude.{All, nat_lt}
use Rattle.std.specs.List.{list_all, slice_split}
use Rattle.std.specs.Char.{is_ascii_digit}
use Rattle.std.proofs.lemmas.Bool.{true≢false, true_from_ne_false, and_parts, and_left, or_from, ne_eqb, le-ltb}
use Rattle.std.proofs.lemmas.List.{length-append, get_or-append-add}
use Rattle.std.proofs.lemmas.List.Folds.{list_all_at}
use Rattle.std.proofs.lemmas.List.Elements.{All-nil, All-cons, All-append, All-same}
use Rattle.std.proofs.lemmas.List.Splits.{slice_split_at, slice_split_none}
use Rattle.bound_base.specs.Digits.{number_of}
use Rattle.bound_base.proofs.Decimal.{digit_range, read_digits}
use Rattle.bound_io.specs.Lines.{is_lf}
use Rattle.cache_model.specs.declared.objects.Object.{Object}
use Rattle.cache_model.specs.Texts.{entry}
use Rattle.cert_format.proofs.Decimals.{digits-decimal, some-decimal, number_in-decimal, length-decimal}
use Rattle.trace_lines.specs.Lines.{is_gap, words, without_cr, is_blank}
use Rattle.trace_lines.specs.declared.line.Span.TheVariants.{One}
use Rattle.trace_webcache.specs.Lines.{line_span}
use Rattle.demo_trace.specs.Lines.{IsWritable, webcache_line}

-- a test that no digit passes fails at each byte of digits
pub fails_at_digits : (p : ℕ → Bool) → ((d : ℕ) → 48 ≤ d → p d ≡ false) → (ds : List ℕ) → list_all is_ascii_digit ds ≡ true → All (λ d. p d ≡ false) ds
fails_at_digits p fails [] digits = All-nil (λ d. p d ≡ false)
fails_at_digits p fails (d ∷ ds) digits =
    let both = and_parts (is_ascii_digit d) (list_all is_ascii_digit ds) digits in
    All-cons (λ d. p d ≡ false) d ds (fails d (digit_range d both.0).0) (fails_at_digits p fails ds both.1)

-- no digit parts words
pub no_gap : (d : ℕ) → 48 ≤ d → is_gap d ≡ false
no_gap d high = or_from (d == 32) (d == 9) (ne_eqb d 32 (λ same. omega (arith, same, high))) (ne_eqb d 9 (λ same. omega (arith, same, high)))

-- a number of 64 bits has at most 20 digits
small : (n : ℕ) → n < 2 ^ 64 → n < 10 ^ 64
small n low = omega (arith, low)

-- three words of digits are the words of their line
words_of_three : (a b d : List ℕ) → list_all is_ascii_digit a ≡ true → list_all is_ascii_digit b ≡ true → list_all is_ascii_digit d ≡ true → 0 < length a → 0 < length b → 0 < length d
    → words (a ++ 32 ∷ (b ++ 32 ∷ d)) ≡ a ∷ b ∷ d ∷ []
words_of_three a b d of_a of_b of_d some_a some_b some_d =
    let cut_a : slice_split is_gap (a ++ 32 ∷ (b ++ 32 ∷ d)) ≡ a ∷ slice_split is_gap (b ++ 32 ∷ d) = slice_split_at is_gap a 32 (b ++ 32 ∷ d) (fails_at_digits is_gap no_gap a of_a) refl in
    let cut_b : slice_split is_gap (b ++ 32 ∷ d) ≡ b ∷ slice_split is_gap d = slice_split_at is_gap b 32 d (fails_at_digits is_gap no_gap b of_b) refl in
    let cut_d : slice_split is_gap d ≡ d ∷ [] = slice_split_none is_gap d (fails_at_digits is_gap no_gap d of_d) in
    let whole_a : (length a == 0) ≡ false = ne_eqb (length a) 0 (λ none. omega (arith, none, some_a)) in
    let whole_b : (length b == 0) ≡ false = ne_eqb (length b) 0 (λ none. omega (arith, none, some_b)) in
    let whole_d : (length d == 0) ≡ false = ne_eqb (length d) 0 (λ none. omega (arith, none, some_d)) in
    rw (cut_a, cut_b, cut_d, whole_a, whole_b, whole_d) refl

-- an entry, with its words apart
entry_apart : (word : List ℕ) (n : ℕ) → entry word n ≡ word ++ 32 ∷ decimal n
entry_apart word n = append_assoc word (32 ∷ []) (decimal n)

-- a line, with its words apart
pub line_apart : (n : ℕ) (x : Object) → webcache_line n x ≡ decimal n ++ 32 ∷ (decimal x.id ++ 32 ∷ decimal x.size)
line_apart n x =
    entry_apart (entry (decimal n) x.id) x.size
    ∙ (ap (λ w. w ++ 32 ∷ decimal x.size) (entry_apart (decimal n) x.id) ∙ append_assoc (decimal n) (32 ∷ decimal x.id) (32 ∷ decimal x.size))

-- a number below the limit is read from its digits
number_read : (n : ℕ) → n < 2 ^ 64 → number_of (2 ^ 64) (decimal n) ≡ Ok n
number_read n low =
    let few = small n low in
    let value = number_in-decimal n few in
    read_digits (2 ^ 64) (decimal n) (some-decimal n few) (digits-decimal n few) (omega (arith, value, low)) ∙ ap Ok value

-- the span of a line of this form
span_read : (line : List ℕ) (a b d : List ℕ) (id size : ℕ) → words line ≡ a ∷ b ∷ d ∷ [] → number_of (2 ^ 64) b ≡ Ok id → number_of (2 ^ 64) d ≡ Ok size → 1 ≤ size → size ≤ 2 ^ 48 → line_span line ≡ Ok (One id size)
span_read line a b d id size are of_b of_d some most =
    let within : nat_lt (2 ^ 48) size ≡ false = le-ltb (2 ^ 48) size most in
    let nonzero : (size == 0) ≡ false = ne_eqb size 0 (λ none. omega (arith, none, some)) in
    rw (are, of_b, of_d, within, nonzero) refl

-- a line asks for its object
pub line_read : (n : ℕ) (x : Object) → n < 2 ^ 64 → IsWritable x → line_span (webcache_line n x) ≡ Ok (One x.id x.size)
line_read n x low ok =
    let few_n = small n low in
    let few_id = small x.id ok.id in
    let low_size : x.size < 2 ^ 64 = omega (arith, ok.size) in
    let few_size = small x.size low_size in
    let are : words (webcache_line n x) ≡ decimal n ∷ decimal x.id ∷ decimal x.size ∷ [] =
    ap words (line_apart n x)
    ∙ words_of_three (decimal n) (decimal x.id) (decimal x.size) (digits-decimal n few_n) (digits-decimal x.id few_id) (digits-decimal x.size few_size) (some-decimal n few_n) (some-decimal x.id few_id) (some-decimal x.size few_size) in
    span_read (webcache_line n x) (decimal n) (decimal x.id) (decimal x.size) x.id x.size are (number_read x.id ok.id) (number_read x.size low_size) (ok.size.0) (ok.size.1)

-- a line is short
pub line_short : (n : ℕ) (x : Object) → n < 2 ^ 64 → IsWritable x → length (webcache_line n x) ≤ 62
line_short n x low ok =
    let low_size : x.size < 2 ^ 64 = omega (arith, ok.size) in
    let len = length-append (decimal n) (32 ∷ (decimal x.id ++ 32 ∷ decimal x.size)) in
    let len' = length-append (decimal x.id) (32 ∷ decimal x.size) in
    let of_n = length-decimal 20 n (omega arith) (omega (arith, low)) (small n low) in
    let of_id = length-decimal 20 x.id (omega arith) (omega (arith, ok.id)) (small x.id ok.id) in
    let of_size = length-decimal 20 x.size (omega arith) (omega (arith, low_size)) (small x.size low_size) in
    omega (arith, ap length (line_apart n x), len, len', of_n, of_id, of_size)

-- a line with a digit at its beginning is not blank
not_blank : (d : ℕ) (rest : List ℕ) → is_gap d ≡ false → is_blank (d ∷ rest) ≡ false
not_blank d rest fails = and_left (is_gap d) (list_all is_gap rest) fails

-- digits begin with a digit
first_digit : (ds more : List ℕ) → 0 < length ds → list_all is_ascii_digit ds ≡ true → is_blank (ds ++ more) ≡ false
first_digit [] more some digits = absurd (omega (arith, some))
first_digit (d ∷ ds) more some digits = not_blank d (ds ++ more) (no_gap d (digit_range d (and_parts (is_ascii_digit d) (list_all is_ascii_digit ds) digits).0).0)

pub line_not_blank : (n : ℕ) (x : Object) → n < 2 ^ 64 → is_blank (webcache_line n x) ≡ false
line_not_blank n x low =
    ap is_blank (line_apart n x) ∙ first_digit (decimal n) (32 ∷ (decimal x.id ++ 32 ∷ decimal x.size)) (some-decimal n (small n low)) (digits-decimal n (small n low))

-- each of some digits is one
digit_at : (ds : List ℕ) (i : ℕ) → i < length ds → list_all is_ascii_digit ds ≡ true → is_ascii_digit (get_or ds i 0) ≡ true
digit_at ds i within digits = true_from_ne_false (is_ascii_digit (get_or ds i 0)) (λ fails. true≢false (sym digits ∙ list_all_at is_ascii_digit ds i 0 within fails))

-- digits at the end of a text end it in no CR
ends_in_digit : (text ds : List ℕ) → 0 < length ds → list_all is_ascii_digit ds ≡ true → without_cr (text ++ ds) ≡ text ++ ds
ends_in_digit text ds some digits =
    let last = length ds - 1 in
    let place : length (text ++ ds) - 1 ≡ length text + last = omega (arith, length-append text ds, some) in
    let at : get_or (text ++ ds) (length (text ++ ds) - 1) 0 ≡ get_or ds last 0 = ap (λ i. get_or (text ++ ds) i 0) place ∙ get_or-append-add text ds last 0 in
    let digit = digit_range (get_or ds last 0) (digit_at ds last (omega (arith, some)) digits) in
    let other : (get_or (text ++ ds) (length (text ++ ds) - 1) 0 == 13) ≡ false = ne_eqb (get_or (text ++ ds) (length (text ++ ds) - 1) 0) 13 (λ same. omega (arith, at, same, digit)) in
    rw other refl

pub line_without_cr : (n : ℕ) (x : Object) → IsWritable x → without_cr (webcache_line n x) ≡ webcache_line n x
line_without_cr n x ok =
    let few = small x.size (omega (arith, ok.size)) in
    ends_in_digit (entry (decimal n) x.id ++ codes " ") (decimal x.size) (some-decimal x.size few) (digits-decimal x.size few)

-- no digit ends a line
no_lf : (d : ℕ) → 48 ≤ d → is_lf d ≡ false
no_lf d high = ne_eqb d 10 (λ same. omega (arith, same, high))

-- a line has no LF in it
pub line_without_lf : (n : ℕ) (x : Object) → n < 2 ^ 64 → IsWritable x → All (λ d. is_lf d ≡ false) (webcache_line n x)
line_without_lf n x low ok =
    let No : ℕ → Type 0 = λ d. is_lf d ≡ false in
    let of_digits' = λ (m : ℕ) (few : m < 10 ^ 64). fails_at_digits is_lf no_lf (decimal m) (digits-decimal m few) in
    let last = All-cons No 32 (decimal x.size) refl (of_digits' x.size (small x.size (omega (arith, ok.size)))) in
    let later = All-cons No 32 (decimal x.id ++ 32 ∷ decimal x.size) refl (All-append No (decimal x.id) (32 ∷ decimal x.size) (of_digits' x.id (small x.id ok.id)) last) in
    All-same No (webcache_line n x) (decimal n ++ 32 ∷ (decimal x.id ++ 32 ∷ decimal x.size)) (line_apart n x) (All-append No (decimal n) (32 ∷ (decimal x.id ++ 32 ∷ decimal x.size)) (of_digits' n (small n low)) later)
