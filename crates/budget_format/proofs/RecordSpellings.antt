-- The line of a record has one spelling.
use Rattle.std.proofs.Common.{◌≡◌, ℕ, ◌^◌, ◌≤◌, ◌<◌, ◌∙◌, sym, refl, ap, subst, cond, Bool, Option, true, false, ◌==◌, List, [], ◌∷◌, ◌++◌, arith, decimal, Some, None, Ok, inl, inr, ◌⊎◌, slice_index_or}
use Rattle.std.specs.Option.{option_or}
use Rattle.std.proofs.lemmas.Bool.{cases_Bool, eqb-true, eq-eqb}
use Rattle.std.proofs.lemmas.List.{length-append}
use Rattle.cache_model.specs.Texts.{entry, keep_digit}
use Rattle.cert_format.specs.declared.fault.TextKind.{TextKind}
use Rattle.cert_format.specs.declared.fault.TextKind.TheVariants.{Range, Shape}
use Rattle.cert_format.specs.Grammar.{Within, WithinBut, has_shape, line_fault, number_fault, number_in, value_unless, words, words_fault, is_canonical}
use Rattle.cert_format.proofs.Words.{words-append, text_of_two, lone_word}
use Rattle.cert_format.proofs.Shapes.{no_shape, none_of_ok}
use Rattle.cert_format.proofs.Decimals.{keep_text, number_in-decimal, digits-decimal, some-decimal, lacks-digits, decimal-number_in, length-decimal}
use Rattle.cert_format.proofs.Spellings.{fits_range, range_fits, words-decimal, space_between, IsLine, both_lack}
use Rattle.budget_format.specs.declared.certificates.BudgetRecord.{BudgetRecord}
use Rattle.budget_format.specs.Budgets.{IsBudgetRecord}
use Rattle.budget_format.specs.Grammar.{full_slots, is_short, record_in, record_of, record_slots, short_slots}
use Rattle.budget_format.specs.Texts.{record_line}
use Rattle.budget_format.proofs.RecordShapes.{entry_of, full_keep, full_shape, keep_lone, keep_word, of_full, of_short, record_of-keep, short_keep, short_shape}

-- the line of a price and a keep
entry_is : (price : ℕ) (keep : Bool) → entry (decimal price) (keep_digit keep) ≡ decimal price ++ 32 ∷ keep_word keep
entry_is price keep = space_between (decimal price) (decimal (keep_digit keep)) ∙ ap (λ k. decimal price ++ 32 ∷ k) (keep_text keep)

entry_words : (price : ℕ) (keep : Bool) → price < 10 ^ 64 → words (decimal price ++ 32 ∷ keep_word keep) ≡ decimal price ∷ words (keep_word keep)
entry_words price keep small = words-append (decimal price) (keep_word keep) ∙ ap (λ ps. ps ++ words (keep_word keep)) (words-decimal price small)

-- the line of a record by whether it is short
abbrev line_by : Bool → BudgetRecord → List ℕ
line_by short r = cond short (decimal (keep_digit r.keep)) (entry (decimal r.price) (keep_digit r.keep))

-- a text that is read as this record
abbrev Gives : ℕ → List ℕ → BudgetRecord → Type 0
Gives before text r = Ok r ≡ value_unless (line_fault (record_slots before text) text) (record_in before text)

price_fits : (before price : ℕ) → price ≤ 2 ^ 126 → (price == before) ≡ false → number_fault (WithinBut 0 (2 ^ 126) before) (decimal price) ≡ None
price_fits before price small other = rw (fits_range 0 (2 ^ 126) price (omega arith) small (omega (arith, small)), number_in-decimal price (omega (arith, small)), other) refl

short_given : (before : ℕ) (r : BudgetRecord) → r.price ≡ before → Gives before (keep_word r.keep) r
short_given before r same =
    let value : record_of before (keep_word r.keep) ≡ r = record_of-keep before r.keep ∙ ap (λ p. entry_of p r.keep) (sym same) in
    sym (ap (λ o. value_unless o (record_of before (keep_word r.keep))) (short_keep r.keep) ∙ ap Ok value) ∙ of_short before (keep_word r.keep) (keep_lone r.keep)

full_given : (before : ℕ) (r : BudgetRecord) → IsBudgetRecord r → (r.price == before) ≡ false → Gives before (decimal r.price ++ 32 ∷ keep_word r.keep) r
full_given before r range other =
    let small : r.price < 10 ^ 64 = omega (arith, range) in
    let word = decimal r.price in
    let value : record_of (number_in word) (keep_word r.keep) ≡ r = record_of-keep (number_in word) r.keep ∙ ap (λ p. entry_of p r.keep) (number_in-decimal r.price small) in
    let fits : words_fault (full_slots before) (word ∷ words (keep_word r.keep)) ≡ None = full_keep before word (keep_word r.keep) r.keep (some-decimal r.price small) refl ∙ price_fits before r.price range other in
    sym (ap (λ o. value_unless o (record_of (number_in word) (keep_word r.keep))) fits ∙ ap Ok value) ∙ of_full before (word ++ 32 ∷ keep_word r.keep) word (keep_word r.keep) (entry_words r.price r.keep small)

-- the line of a record in range is read as that record
pub record_fits : (before : ℕ) (r : BudgetRecord) → IsBudgetRecord r → (line_fault (record_slots before (record_line before r)) (record_line before r) ≡ None) × (record_in before (record_line before r) ≡ r)
record_fits before r range = let read = none_of_ok _ _ r (by (r.price == before) refl) in (read.0, sym read.1)
  where
    by : (short : Bool) → (r.price == before) ≡ short → Gives before (line_by short r) r
    by true is = subst (λ t. Gives before t r) (sym (keep_text r.keep)) (short_given before r (eqb-true r.price before is))
    by false is = subst (λ t. Gives before t r) (sym (entry_is r.price r.keep)) (full_given before r range is)

no_two : (o p : Option TextKind) → option_or o p ≡ None → (o ≡ None) × (p ≡ None)
no_two None p h = (refl, h)
no_two (Some x) p h = let wrong : Some x ≡ None = h in cc

-- a number without a fault in the place of a price
fits_price : (before : ℕ) (word : List ℕ) → number_fault (WithinBut 0 (2 ^ 126) before) word ≡ None → (is_canonical word ≡ true) × (number_in word ≤ 2 ^ 126) × ((number_in word == before) ≡ false)
fits_price before word fits =
    let parts = no_two (number_fault (Within 0 (2 ^ 126)) word) _ fits in
    let range = range_fits 0 (2 ^ 126) word parts.0 in
    (range.0, range.2, other (number_in word == before) parts.1)
  where
    other : (b : Bool) → cond b (Some Range) None ≡ None → b ≡ false
    other true h = let wrong : Some Range ≡ None = h in cc
    other false h = refl

-- a text that is the line of a record in range
abbrev pub IsRecordLine : ℕ → List ℕ → BudgetRecord → Type 0
IsRecordLine before text r = IsBudgetRecord r × (text ≡ record_line before r)

short_spelled : (before : ℕ) (text : List ℕ) → before ≤ 2 ^ 126 → line_fault short_slots text ≡ None → (keep : Bool) × (words text ≡ text ∷ []) × (text ≡ keep_word keep)
short_spelled before text small fits = by (cases_Bool (has_shape short_slots (words text)))
  where
    by : (has_shape short_slots (words text) ≡ true) ⊎ (has_shape short_slots (words text) ≡ false) → (keep : Bool) × (words text ≡ text ∷ []) × (text ≡ keep_word keep)
    by (inr none) = let wrong : Some Shape ≡ None = sym (no_shape short_slots text none) ∙ fits in cc
    by (inl shape) =
        let found = short_shape (words text) shape in
        let is = lone_word text (keep_word found.0) found.1 in
        (found.0, found.1 ∙ ap (λ w. w ∷ []) (sym is), is)

full_spelled : (before : ℕ) (text : List ℕ) → line_fault (full_slots before) text ≡ None
    → (price : List ℕ) × (keep : Bool) × (words text ≡ price ∷ keep_word keep ∷ []) × (number_fault (WithinBut 0 (2 ^ 126) before) price ≡ None)
full_spelled before text fits = by (cases_Bool (has_shape (full_slots before) (words text)))
  where
    by : (has_shape (full_slots before) (words text) ≡ true) ⊎ (has_shape (full_slots before) (words text) ≡ false)
        → (price : List ℕ) × (keep : Bool) × (words text ≡ price ∷ keep_word keep ∷ []) × (number_fault (WithinBut 0 (2 ^ 126) before) price ≡ None)
    by (inr none) = let wrong : Some Shape ≡ None = sym (no_shape (full_slots before) text none) ∙ fits in cc
    by (inl shape) =
        let found = full_shape before (words text) shape in
        let are : words text ≡ found.0 ∷ words (keep_word found.1) = found.2 ∙ ap (λ ps. found.0 ∷ ps) (sym (keep_lone found.1)) in
        let fault : line_fault (full_slots before) text ≡ number_fault (WithinBut 0 (2 ^ 126) before) found.0 = ap (words_fault (full_slots before)) are ∙ full_keep before found.0 (keep_word found.1) found.1 found.3 refl in
        (found.0, found.1, found.2, sym fault ∙ fits)

-- the line of a record without a fault is what its record is written as
pub record_spelled : (before : ℕ) (text : List ℕ) → before ≤ 2 ^ 126 → line_fault (record_slots before text) text ≡ None → IsRecordLine before text (record_in before text)
record_spelled before text small fits = by (is_short text) refl fits
  where
    short : (keep : Bool) → words text ≡ text ∷ [] → text ≡ keep_word keep → IsRecordLine before text (entry_of before keep)
    short keep lone is = (small, is ∙ (sym (keep_text keep) ∙ sym (ap (λ b. line_by b (entry_of before keep)) (eq-eqb before before refl))))

    full : (price : List ℕ) (keep : Bool) → words text ≡ price ∷ keep_word keep ∷ [] → number_fault (WithinBut 0 (2 ^ 126) before) price ≡ None → IsRecordLine before text (entry_of (number_in price) keep)
    full price keep are fit =
        let parts = fits_price before price fit in
        let digits : decimal (number_in price) ≡ price = decimal-number_in price parts.0 (omega (arith, parts.1)) in
        (parts.1, text_of_two text price (keep_word keep) are ∙ (ap (λ p. p ++ 32 ∷ keep_word keep) (sym digits) ∙ (sym (entry_is (number_in price) keep) ∙ sym (ap (λ b. line_by b (entry_of (number_in price) keep)) parts.2))))

    same_line : (r s : BudgetRecord) → r ≡ s → IsRecordLine before text r → IsRecordLine before text s
    same_line r s same is = subst (IsRecordLine before text) same is

    by : (b : Bool) → is_short text ≡ b → line_fault (cond b short_slots (full_slots before)) text ≡ None → IsRecordLine before text (cond b (record_of before (slice_index_or (words text) 0 [])) (record_of (number_in (slice_index_or (words text) 0 [])) (slice_index_or (words text) 1 [])))
    by true is fit =
        let found = short_spelled before text small fit in
        let value : entry_of before found.0 ≡ record_of before (slice_index_or (words text) 0 []) = sym (record_of-keep before found.0) ∙ ap (record_of before) (sym found.2) ∙ ap (λ ws. record_of before (slice_index_or ws 0 [])) (sym found.1) in
        same_line _ _ value (short found.0 found.1 found.2)
    by false is fit =
        let found = full_spelled before text fit in
        let value : entry_of (number_in found.0) found.1 ≡ record_of (number_in (slice_index_or (words text) 0 [])) (slice_index_or (words text) 1 []) = sym (record_of-keep (number_in found.0) found.1) ∙ ap (λ ws. record_of (number_in (slice_index_or ws 0 [])) (slice_index_or ws 1 [])) (sym found.2) in
        same_line _ _ value (full found.0 found.1 found.2 found.3)

keep_one : (keep : Bool) → IsLine (keep_word keep)
keep_one true = (refl, omega arith)
keep_one false = (refl, omega arith)

-- it has no LF, and few bytes
pub record_is_line : (before : ℕ) (r : BudgetRecord) → IsBudgetRecord r → IsLine (record_line before r)
record_is_line before r range = by (r.price == before)
  where
    full : IsLine (decimal r.price ++ 32 ∷ keep_word r.keep)
    full = (
      both_lack (decimal r.price) (32 ∷ keep_word r.keep) (lacks-digits 10 (decimal r.price) (omega arith) (digits-decimal r.price (omega (arith, range)))) (both_lack (32 ∷ []) (keep_word r.keep) refl (keep_one r.keep).0),
      omega (arith, length-append (decimal r.price) (32 ∷ keep_word r.keep), length-decimal 38 r.price (omega arith) (omega (arith, range)) (omega (arith, range))),
    )

    by : (short : Bool) → IsLine (line_by short r)
    by true = subst IsLine (sym (keep_text r.keep)) (keep_one r.keep)
    by false = subst IsLine (sym (entry_is r.price r.keep)) full
