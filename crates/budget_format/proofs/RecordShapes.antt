-- Which texts have the shape of the line of a record.
use Rattle.std.proofs.Common.{◌≡◌, ℕ, ◌+◌, ◌^◌, ◌<◌, ◌∙◌, sym, refl, ap, Bool, true, false, ◌&&◌, ◌==◌, List, [], ◌∷◌, length, arith, Some, None, Option, codes, inl, inr, ◌⊎◌, slice_index_or}
use Rattle.std.proofs.lemmas.Bool.{true≢false, and_parts, and_from, ne_eqb, false_from_ne_true, cases_Bool}
use Rattle.cert_format.specs.Grammar.{OneOf, WithinBut, can_stand, has_shape, line_fault, number_fault, number_in, value_unless, words, words_fault}
use Rattle.cert_format.specs.declared.fault.TextKind.TheVariants.{Shape}
use Rattle.cache_model.specs.Texts.{keep_digit}
use Rattle.cert_format.proofs.Words.{length-words, lone_word}
use Rattle.cert_format.proofs.Shapes.{no_words, of_words, or_none, some_stands, stands_some}
use Rattle.cert_format.proofs.RecordShapes.{keep_word_of, kept}
use Rattle.budget_format.specs.declared.certificates.BudgetRecord.{BudgetRecord}
use Rattle.budget_format.specs.Grammar.{full_slots, is_short, record_in, record_of, record_slots, short_slots}

-- the word of a keep
abbrev pub keep_word : Bool → List ℕ
keep_word keep = (48 + keep_digit keep) ∷ []

abbrev pub entry_of : ℕ → Bool → BudgetRecord
entry_of price keep = record { price = price; keep = keep }

keep_stands : (keep : Bool) → can_stand (OneOf (codes "0" ∷ codes "1" ∷ [])) (keep_word keep) ≡ true
keep_stands true = refl
keep_stands false = refl

pub record_of-keep : (price : ℕ) (keep : Bool) → record_of price (keep_word keep) ≡ entry_of price keep
record_of-keep price keep = ap (entry_of price) (kept keep)

-- one word
pub short_keep : (keep : Bool) → words_fault short_slots (keep_word keep ∷ []) ≡ None
short_keep true = refl
short_keep false = refl

pub no_short : (word : List ℕ) → can_stand (OneOf (codes "0" ∷ codes "1" ∷ [])) word ≡ false → words_fault short_slots (word ∷ []) ≡ Some Shape
no_short word none = no_words short_slots (word ∷ []) (ap (λ b. b && true) none)

pub short_shape : (given : List (List ℕ)) → has_shape short_slots given ≡ true → (keep : Bool) × (given ≡ keep_word keep ∷ [])
short_shape [] shape = absurd (true≢false (sym shape))
short_shape (k ∷ []) shape =
    let stands = and_parts (can_stand (OneOf (codes "0" ∷ codes "1" ∷ [])) k) true shape in
    let keep = keep_word_of k stands.0 in
    (keep.0, ap (λ w. w ∷ []) keep.1)
short_shape (k ∷ more ∷ others) shape = let parts = and_parts (can_stand (OneOf (codes "0" ∷ codes "1" ∷ [])) k) false shape in absurd (true≢false (sym parts.1))

-- a price and a keep
pub keep_lone : (keep : Bool) → words (keep_word keep) ≡ keep_word keep ∷ []
keep_lone true = refl
keep_lone false = refl

pub full_keep : (before : ℕ) (price rest : List ℕ) (keep : Bool) → 0 < length price → rest ≡ keep_word keep
    → words_fault (full_slots before) (price ∷ words rest) ≡ number_fault (WithinBut 0 (2 ^ 126) before) price
full_keep before price rest keep some is =
    let given = price ∷ keep_word keep ∷ [] in
    let shape : has_shape (full_slots before) given ≡ true = and_from (can_stand (WithinBut 0 (2 ^ 126) before) price) _ (some_stands 0 (2 ^ 126) price some) (and_from (can_stand (OneOf (codes "0" ∷ codes "1" ∷ [])) (keep_word keep)) true (keep_stands keep) refl) in
    rw (is, keep_lone keep) (of_words (full_slots before) given shape ∙ or_none (number_fault (WithinBut 0 (2 ^ 126) before) price))

-- the words of a full line
pub full_shape : (before : ℕ) (given : List (List ℕ)) → has_shape (full_slots before) given ≡ true
    → (price : List ℕ) × (keep : Bool) × (given ≡ price ∷ keep_word keep ∷ []) × (0 < length price)
full_shape before [] shape = absurd (true≢false (sym shape))
full_shape before (p ∷ []) shape = let parts = and_parts (can_stand (WithinBut 0 (2 ^ 126) before) p) false shape in absurd (true≢false (sym parts.1))
full_shape before (p ∷ k ∷ []) shape =
    let parts = and_parts (can_stand (WithinBut 0 (2 ^ 126) before) p) (can_stand (OneOf (codes "0" ∷ codes "1" ∷ [])) k && true) shape in
    let stands = and_parts (can_stand (OneOf (codes "0" ∷ codes "1" ∷ [])) k) true parts.1 in
    let keep = keep_word_of k stands.0 in
    (p, keep.0, ap (λ w. p ∷ w ∷ []) keep.1, stands_some 0 0 p parts.0)
full_shape before (p ∷ k ∷ more ∷ others) shape =
    let parts = and_parts (can_stand (WithinBut 0 (2 ^ 126) before) p) (can_stand (OneOf (codes "0" ∷ codes "1" ∷ [])) k && false) shape in
    let stands = and_parts (can_stand (OneOf (codes "0" ∷ codes "1" ∷ [])) k) false parts.1 in
    absurd (true≢false (sym stands.1))

pub no_full : (before : ℕ) (price rest : List ℕ) → (length price ≡ 0) ⊎ (can_stand (OneOf (codes "0" ∷ codes "1" ∷ [])) rest ≡ false)
    → words_fault (full_slots before) (price ∷ words rest) ≡ Some Shape
no_full before price rest why = no_words (full_slots before) (price ∷ words rest) (false_from_ne_true _ (λ shape.
    let found = full_shape before (price ∷ words rest) shape in
    let same : price ≡ found.0 = cc in
    let lone : words rest ≡ keep_word found.1 ∷ [] = cc in
    by why (omega (arith, found.3, ap length same)) (ap (can_stand (OneOf (codes "0" ∷ codes "1" ∷ []))) (lone_word rest (keep_word found.1) lone) ∙ keep_stands found.1)))
  where
    by : (length price ≡ 0) ⊎ (can_stand (OneOf (codes "0" ∷ codes "1" ∷ [])) rest ≡ false) → 0 < length price → can_stand (OneOf (codes "0" ∷ codes "1" ∷ [])) rest ≡ true → ⊥
    by (inl empty) some stands = omega (arith, empty, some)
    by (inr none) some stands = true≢false (sym stands ∙ none)

-- a line of one word is short, and one of more is not
pub short_line : (text : List ℕ) → words text ≡ text ∷ [] → is_short text ≡ true
short_line text are = ap (λ ws. length ws == 1) are

pub long_line : (text price rest : List ℕ) → words text ≡ price ∷ words rest → is_short text ≡ false
long_line text price rest are = ne_eqb (length (words text)) 1 (λ one. omega (arith, one, ap length are, length-words rest))

-- what a line states, by its words
pub of_short : (before : ℕ) (text : List ℕ) → words text ≡ text ∷ []
    → value_unless (words_fault short_slots (text ∷ [])) (record_of before text) ≡ value_unless (line_fault (record_slots before text) text) (record_in before text)
of_short before text are = rw (short_line text are, are) refl

-- the value of a fault, if it is none
same_value : {A F : Type 0} (o : Option F) (a b : A) → (o ≡ None → a ≡ b) → value_unless o a ≡ value_unless o b
same_value None a b same = ap (λ x. value_unless None x) (same refl)
same_value (Some fault) a b same = refl

-- the second word of a line that fits is what stands after the first
fit_rest : (before : ℕ) (price rest : List ℕ) → words_fault (full_slots before) (price ∷ words rest) ≡ None → words rest ≡ rest ∷ []
fit_rest before price rest fits = by (cases_Bool (has_shape (full_slots before) (price ∷ words rest)))
  where
    by : (has_shape (full_slots before) (price ∷ words rest) ≡ true) ⊎ (has_shape (full_slots before) (price ∷ words rest) ≡ false) → words rest ≡ rest ∷ []
    by (inr none) = let wrong : Some Shape ≡ None = sym (no_words (full_slots before) (price ∷ words rest) none) ∙ fits in cc
    by (inl shape) =
        let found = full_shape before (price ∷ words rest) shape in
        let lone : words rest ≡ keep_word found.1 ∷ [] = cc in
        lone ∙ ap (λ w. w ∷ []) (sym (lone_word rest (keep_word found.1) lone))

pub of_full : (before : ℕ) (text price rest : List ℕ) → words text ≡ price ∷ words rest
    → value_unless (words_fault (full_slots before) (price ∷ words rest)) (record_of (number_in price) rest) ≡ value_unless (line_fault (record_slots before text) text) (record_in before text)
of_full before text price rest are =
    rw (long_line text price rest are, are) (same_value (words_fault (full_slots before) (price ∷ words rest)) (record_of (number_in price) rest) _
    (λ fits. ap (λ ws. record_of (number_in price) (slice_index_or ws 0 [])) (sym (fit_rest before price rest fits))))
