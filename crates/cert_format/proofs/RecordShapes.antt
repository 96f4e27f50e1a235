-- Which texts have the shape of the line of a record.
use Rattle.std.proofs.Common.{◌≡◌, ℕ, ◌+◌, ◌^◌, ◌<◌, ◌∙◌, sym, refl, ap, Bool, true, false, ◌&&◌, ◌==◌, cond, List, [], ◌∷◌, length, arith, Some, None, Option, codes, inl, inr, ◌⊎◌}
use Rattle.std.specs.Option.{option_or, is_some}
use Rattle.std.specs.Str.{bytes_eq}
use Rattle.std.proofs.lemmas.Bool.{true≢false, and_parts, and_from, cases_Bool, false_from_ne_true}
use Rattle.cert_format.specs.Grammar.{Slot, OneOf, Within, WithinBut, words, can_stand, has_shape, first_number_fault, number_fault, words_fault, line_fault, full_slots, short_slots, price_slot, number_in}
use Rattle.cert_format.specs.declared.fault.TextKind.{TextKind}
use Rattle.cert_format.specs.declared.fault.TextKind.TheVariants.{Shape}
use Rattle.cert_format.specs.Readings.{entry_of, full_in}
use Rattle.cache_model.specs.declared.version.TheConstants.{SHORT_VERSION}
use Rattle.cache_model.specs.Texts.{keep_digit}
use Rattle.cert_format.proofs.Words.{lone_word}
use Rattle.cert_format.proofs.Shapes.{no_words, of_words, no_shape, of_shape, some_stands, stands_some, or_none, first_or_second}

-- the place of a keep
abbrev keep_slot : Slot
keep_slot = OneOf (codes "0" ∷ codes "1" ∷ [])

-- a place where any word of a byte at least may stand
abbrev IsNumber : Slot → Type 0
IsNumber slot = (word : List ℕ) → can_stand slot word ≡ can_stand (Within 0 0) word

price_by : Bool → ℕ → Slot
price_by short before = cond short (WithinBut 0 (2 ^ 126) before) (Within 0 (2 ^ 126))

-- the place of a price is one
pub price_is_number : (version before : ℕ) → IsNumber (price_slot version before)
unfolding price_by
price_is_number version before word = by (version == SHORT_VERSION)
  where
    by : (short : Bool) → can_stand (price_by short before) word ≡ can_stand (Within 0 0) word
    by true = refl
    by false = refl

-- a keep and a flow
short_shape : (given : List (List ℕ)) → has_shape short_slots given ≡ true
    → (k : List ℕ) × (f : List ℕ) × (given ≡ k ∷ f ∷ []) × (can_stand keep_slot k ≡ true) × (0 < length f)
short_shape [] shape = absurd (true≢false (sym shape))
short_shape (k ∷ []) shape = let parts = and_parts (can_stand keep_slot k) false shape in absurd (true≢false (sym parts.1))
short_shape (k ∷ f ∷ []) shape =
    let first = and_parts (can_stand keep_slot k) (can_stand (Within 0 (2 ^ 48)) f && true) shape in
    let second = and_parts (can_stand (Within 0 (2 ^ 48)) f) true first.1 in
    (k, f, refl, first.0, stands_some 0 (2 ^ 48) f second.0)
short_shape (k ∷ f ∷ more ∷ others) shape =
    let first = and_parts (can_stand keep_slot k) (can_stand (Within 0 (2 ^ 48)) f && false) shape in
    absurd (true≢false (sym (and_parts (can_stand (Within 0 (2 ^ 48)) f) false first.1).1))

keep_stands : (keep : Bool) → can_stand keep_slot ((48 + keep_digit keep) ∷ []) ≡ true
keep_stands true = refl
keep_stands false = refl

shape_short : (f : List ℕ) (keep : Bool) → 0 < length f → has_shape short_slots (((48 + keep_digit keep) ∷ []) ∷ f ∷ []) ≡ true
shape_short f keep more =
    and_from (can_stand keep_slot ((48 + keep_digit keep) ∷ [])) _ (keep_stands keep) (and_from (can_stand (Within 0 (2 ^ 48)) f) true (some_stands 0 (2 ^ 48) f more) refl)

-- a price, a keep and a flow
pub full_shape : (price : Slot) → IsNumber price → (given : List (List ℕ)) → has_shape (full_slots price) given ≡ true
    → (p : List ℕ) × (k : List ℕ) × (f : List ℕ) × (given ≡ p ∷ k ∷ f ∷ []) × (0 < length p) × (can_stand keep_slot k ≡ true) × (0 < length f)
full_shape price number [] shape = absurd (true≢false (sym shape))
full_shape price number (p ∷ given) shape =
    let parts = and_parts (can_stand price p) (has_shape short_slots given) shape in
    let rest = short_shape given parts.1 in
    (p, rest.0, rest.1, ap (λ ws. p ∷ ws) rest.2, stands_some 0 0 p (sym (number p) ∙ parts.0), rest.3, rest.4)

shape_full : (price : Slot) → IsNumber price → (p f : List ℕ) (keep : Bool) → 0 < length p → 0 < length f
    → has_shape (full_slots price) (p ∷ ((48 + keep_digit keep) ∷ []) ∷ f ∷ []) ≡ true
shape_full price number p f keep some more = and_from (can_stand price p) _ (number p ∙ some_stands 0 0 p some) (shape_short f keep more)

-- the text of a record's line, by its words
pub full_text : (price : Slot) → IsNumber price → (text p f : List ℕ) (keep : Bool) → words text ≡ p ∷ ((48 + keep_digit keep) ∷ []) ∷ f ∷ [] → 0 < length p → 0 < length f
    → line_fault (full_slots price) text ≡ option_or (number_fault price p) (number_fault (Within 0 (2 ^ 48)) f)
full_text price number text p f keep are some more =
    let shape : has_shape (full_slots price) (words text) ≡ true = rw are (shape_full price number p f keep some more) in
    of_shape (full_slots price) text shape ∙ (ap (first_number_fault (full_slots price)) are ∙ ap (option_or (number_fault price p)) (or_none (number_fault (Within 0 (2 ^ 48)) f)))

pub short_text : (f : List ℕ) (keep : Bool) → 0 < length f → words_fault short_slots (((48 + keep_digit keep) ∷ []) ∷ f ∷ []) ≡ number_fault (Within 0 (2 ^ 48)) f
short_text f keep more = of_words short_slots (((48 + keep_digit keep) ∷ []) ∷ f ∷ []) (shape_short f keep more) ∙ or_none (number_fault (Within 0 (2 ^ 48)) f)

pub kept : (keep : Bool) → bytes_eq ((48 + keep_digit keep) ∷ []) (codes "1") ≡ keep
kept true = refl
kept false = refl

pub full_of_text : (text p f : List ℕ) (keep : Bool) → words text ≡ p ∷ ((48 + keep_digit keep) ∷ []) ∷ f ∷ [] → full_in text ≡ entry_of (number_in p) keep (number_in f)
full_of_text text p f keep are = rw are (ap (λ (k : Bool). entry_of (number_in p) k (number_in f)) (kept keep))

-- a line with a price of no byte, or with other than one word of a byte after its keep
pub no_record : (text p k rest flow : List ℕ) → words text ≡ p ∷ words rest → words rest ≡ k ∷ words flow → (length p ≡ 0) ⊎ ((words flow ≡ flow ∷ []) × (0 < length flow) → ⊥)
    → has_shape (full_slots (Within 0 (2 ^ 126))) (words text) ≡ false
no_record text p k rest flow first second other = false_from_ne_true _ (λ shape.
    let three = full_shape (Within 0 (2 ^ 126)) (λ word. refl) (words text) shape in
    let all : p ∷ k ∷ words flow ≡ three.0 ∷ three.1 ∷ three.2 ∷ [] = ap (λ ws. p ∷ ws) (sym second) ∙ (sym first ∙ three.3) in
    let same : p ≡ three.0 = cc in
    let lone : words flow ≡ three.2 ∷ [] = cc in
    by other (omega (arith, three.4, ap length same)) (lone ∙ ap (λ w. w ∷ []) (sym (lone_word flow three.2 lone))) (omega (arith, three.6, ap length (lone_word flow three.2 lone))))
  where
    by : (length p ≡ 0) ⊎ ((words flow ≡ flow ∷ []) × (0 < length flow) → ⊥) → 0 < length p → words flow ≡ flow ∷ [] → 0 < length flow → ⊥
    by (inl empty) some lone more = omega (arith, empty, some)
    by (inr none) some lone more = none (lone, more)

-- two places of numbers have the same shapes
same_shape : (one other : Slot) → IsNumber one → IsNumber other → (given : List (List ℕ)) → has_shape (full_slots one) given ≡ has_shape (full_slots other) given
same_shape one other first second [] = refl
same_shape one other first second (word ∷ given) = ap (λ b. b && has_shape short_slots given) (first word ∙ sym (second word))

-- a line of none of these shapes
pub no_full : (price : Slot) → IsNumber price → (text : List ℕ) → has_shape (full_slots (Within 0 (2 ^ 126))) (words text) ≡ false → line_fault (full_slots price) text ≡ Some Shape
no_full price number text none = no_shape (full_slots price) text (same_shape price (Within 0 (2 ^ 126)) number (λ word. refl) (words text) ∙ none)

-- two words of which the first is no keep, or the second has no byte
pub no_short_keep : (k f : List ℕ) → can_stand keep_slot k ≡ false → words_fault short_slots (k ∷ f ∷ []) ≡ Some Shape
no_short_keep k f none = no_words short_slots (k ∷ f ∷ []) (false_from_ne_true _ (λ shape.
    let parts = and_parts (can_stand keep_slot k) (can_stand (Within 0 (2 ^ 48)) f && true) shape in
    absurd (true≢false (sym parts.0 ∙ none))))

pub no_short_flow : (k f : List ℕ) → length f ≡ 0 → words_fault short_slots (k ∷ f ∷ []) ≡ Some Shape
no_short_flow k f empty = no_words short_slots (k ∷ f ∷ []) (false_from_ne_true _ (λ shape.
    let first = and_parts (can_stand keep_slot k) (can_stand (Within 0 (2 ^ 48)) f && true) shape in
    let second = and_parts (can_stand (Within 0 (2 ^ 48)) f) true first.1 in
    absurd (omega (arith, empty, stands_some 0 (2 ^ 48) f second.0))))

-- a keep is written by its digit
pub keep_word_of : (word : List ℕ) → can_stand keep_slot word ≡ true → (keep : Bool) × (word ≡ (48 + keep_digit keep) ∷ [])
keep_word_of word stands = by (first_or_second (codes "0") (codes "1") word stands)
  where
    by : (word ≡ codes "0") ⊎ (word ≡ codes "1") → (keep : Bool) × (word ≡ (48 + keep_digit keep) ∷ [])
    by (inl no') = (false, no')
    by (inr yes') = (true, yes')

no_two : (o p : Option TextKind) → option_or o p ≡ None → (o ≡ None) × (p ≡ None)
no_two None p h = (refl, h)
no_two (Some x) p h = let wrong : Some x ≡ None = h in absurd (true≢false (ap is_some wrong))

-- the line of a record without a fault has these words
pub text_full : (price : Slot) → IsNumber price → (text : List ℕ) → line_fault (full_slots price) text ≡ None
    → (p : List ℕ) × (keep : Bool) × (f : List ℕ) × (words text ≡ p ∷ ((48 + keep_digit keep) ∷ []) ∷ f ∷ [])
    × (number_fault price p ≡ None) × (number_fault (Within 0 (2 ^ 48)) f ≡ None)
text_full price number text fits = by (cases_Bool (has_shape (full_slots price) (words text)))
  where
    by : (has_shape (full_slots price) (words text) ≡ true) ⊎ (has_shape (full_slots price) (words text) ≡ false)
        → (p : List ℕ) × (keep : Bool) × (f : List ℕ) × (words text ≡ p ∷ ((48 + keep_digit keep) ∷ []) ∷ f ∷ [])
        × (number_fault price p ≡ None) × (number_fault (Within 0 (2 ^ 48)) f ≡ None)
    by (inl shape) =
        let three = full_shape price number (words text) shape in
        let keep = keep_word_of three.1 three.5 in
        let are : words text ≡ three.0 ∷ ((48 + keep_digit keep.0) ∷ []) ∷ three.2 ∷ [] = three.3 ∙ ap (λ k. three.0 ∷ k ∷ three.2 ∷ []) keep.1 in
        let numbers = no_two _ _ (sym (full_text price number text three.0 three.2 keep.0 are three.4 three.6) ∙ fits) in
        (three.0, keep.0, three.2, are, numbers.0, numbers.1)
    by (inr none) = let wrong : Some Shape ≡ None = sym (no_shape (full_slots price) text none) ∙ fits in cc

pub text_short : (text : List ℕ) → line_fault short_slots text ≡ None
    → (keep : Bool) × (f : List ℕ) × (words text ≡ ((48 + keep_digit keep) ∷ []) ∷ f ∷ []) × (number_fault (Within 0 (2 ^ 48)) f ≡ None)
text_short text fits = by (cases_Bool (has_shape short_slots (words text)))
  where
    by : (has_shape short_slots (words text) ≡ true) ⊎ (has_shape short_slots (words text) ≡ false)
        → (keep : Bool) × (f : List ℕ) × (words text ≡ ((48 + keep_digit keep) ∷ []) ∷ f ∷ []) × (number_fault (Within 0 (2 ^ 48)) f ≡ None)
    by (inl shape) =
        let two = short_shape (words text) shape in
        let keep = keep_word_of two.0 two.3 in
        let are : words text ≡ ((48 + keep_digit keep.0) ∷ []) ∷ two.1 ∷ [] = two.2 ∙ ap (λ k. k ∷ two.1 ∷ []) keep.1 in
        (keep.0, two.1, are, sym (ap (words_fault short_slots) are ∙ short_text two.1 keep.0 two.4) ∙ fits)
    by (inr none) = let wrong : Some Shape ≡ None = sym (no_shape short_slots text none) ∙ fits in cc
