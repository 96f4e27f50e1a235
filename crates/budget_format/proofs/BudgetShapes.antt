-- Which texts have the shape of the line of a budget.
use Rattle.std.proofs.Common.{◌≡◌, ◌≢◌, ℕ, ◌^◌, ◌<◌, ◌∙◌, sym, refl, ap, cond, true, false, ◌&&◌, List, [], ◌∷◌, ◌++◌, length, arith, Some, None, codes, inl, inr, ◌⊎◌}
use Rattle.std.specs.Option.{option_or}
use Rattle.std.proofs.lemmas.Bool.{true≢false, and_parts, and_from, cases_Bool, false_from_ne_true}
use Rattle.std.specs.List.{join_with_byte}
use Rattle.std.proofs.lemmas.List.Splits.{join_with_byte-slice_split}
use Rattle.cert_format.specs.Grammar.{Slot, OneOf, Within, can_stand, first_number_fault, has_shape, line_fault, number_at, number_fault, number_in, number_line, value_unless, words}
use Rattle.cert_format.specs.declared.fault.TextKind.TheVariants.{Shape}
use Rattle.cert_format.proofs.Shapes.{fixed_stands, no_shape, of_shape, or_none, some_stands, stands_fixed, stands_some}
use Rattle.budget_format.specs.declared.certificates.TenthLine.TheVariants.{Warmup, Budget as Stated}
use Rattle.cert_format.specs.Readings.{is_warmup}
use Rattle.budget_format.specs.Grammar.{budget_in, budget_slots, tenth_in, tenth_slots}

-- a name, a number and what stands after them
named : (name : List ℕ) (low high : ℕ) (slots : List Slot) (given : List (List ℕ)) → has_shape (OneOf (name ∷ []) ∷ Within low high ∷ slots) given ≡ true
    → (word : List ℕ) × (rest : List (List ℕ)) × (given ≡ name ∷ word ∷ rest) × (0 < length word) × (has_shape slots rest ≡ true)
named name low high slots [] shape = absurd (true≢false (sym shape))
named name low high slots (n ∷ []) shape = let parts = and_parts (can_stand (OneOf (name ∷ [])) n) false shape in absurd (true≢false (sym parts.1))
named name low high slots (n ∷ word ∷ rest) shape =
    let first = and_parts (can_stand (OneOf (name ∷ [])) n) (can_stand (Within low high) word && has_shape slots rest) shape in
    let second = and_parts (can_stand (Within low high) word) (has_shape slots rest) first.1 in
    (word, rest, ap (λ x. x ∷ word ∷ rest) (stands_fixed name n first.0), stands_some low high word second.0, second.1)

shape_named : (name : List ℕ) (low high : ℕ) (slots : List Slot) (word : List ℕ) (rest : List (List ℕ)) → 0 < length word → has_shape slots rest ≡ true
    → has_shape (OneOf (name ∷ []) ∷ Within low high ∷ slots) (name ∷ word ∷ rest) ≡ true
shape_named name low high slots word rest some shape = and_from (can_stand (OneOf (name ∷ [])) name) _ (fixed_stands name) (and_from (can_stand (Within low high) word) _ (some_stands low high word some) shape)

none_left : (given : List (List ℕ)) → has_shape [] given ≡ true → given ≡ []
none_left [] shape = refl
none_left (word ∷ given) shape = absurd (true≢false (sym shape))

-- the words of the line of a budget
abbrev pub four : List ℕ → List ℕ → List (List ℕ)
four bytes price = codes "budget" ∷ bytes ∷ codes "price" ∷ price ∷ []

budget_shape : (given : List (List ℕ)) → has_shape budget_slots given ≡ true → (bytes : List ℕ) × (price : List ℕ) × (given ≡ four bytes price) × (0 < length bytes) × (0 < length price)
budget_shape given shape =
    let first = named (codes "budget") 0 (2 ^ 80) (OneOf (codes "price" ∷ []) ∷ Within 0 (2 ^ 126) ∷ []) given shape in
    let second = named (codes "price") 0 (2 ^ 126) [] first.1 first.4 in
    let none = none_left second.1 second.4 in
    (first.0, second.0, first.2 ∙ ap (λ ws. codes "budget" ∷ first.0 ∷ ws) (second.2 ∙ ap (λ ws. codes "price" ∷ second.0 ∷ ws) none), first.3, second.3)

-- the fault of the line of a budget, by its words
pub budget_text : (text bytes price : List ℕ) → words text ≡ four bytes price → 0 < length bytes → 0 < length price
    → line_fault budget_slots text ≡ option_or (number_fault (Within 0 (2 ^ 80)) bytes) (number_fault (Within 0 (2 ^ 126)) price)
budget_text text bytes price are some more =
    let last = shape_named (codes "price") 0 (2 ^ 126) [] price [] more refl in
    let shape : has_shape budget_slots (words text) ≡ true = rw are (shape_named (codes "budget") 0 (2 ^ 80) (OneOf (codes "price" ∷ []) ∷ Within 0 (2 ^ 126) ∷ []) bytes (codes "price" ∷ price ∷ []) some last) in
    of_shape budget_slots text shape ∙ (ap (first_number_fault budget_slots) are ∙ ap (option_or (number_fault (Within 0 (2 ^ 80)) bytes)) (or_none (number_fault (Within 0 (2 ^ 126)) price)))

-- what it states
pub budget_of_text : (text bytes price : List ℕ) → words text ≡ four bytes price → budget_in text ≡ record { bytes = number_in bytes; price = number_in price }
budget_of_text text bytes price are = rw are refl

no_budget : (text : List ℕ) → ((bytes price : List ℕ) → words text ≡ four bytes price → 0 < length bytes → 0 < length price → ⊥) → has_shape budget_slots (words text) ≡ false
no_budget text none = false_from_ne_true _ (λ shape. let found = budget_shape (words text) shape in none found.0 found.1 found.2 found.3 found.4)

-- lines of too few words
pub one_word : (text : List ℕ) → words text ≡ text ∷ [] → has_shape budget_slots (words text) ≡ false
one_word text are = no_budget text (λ bytes price is some more. omega (arith, ap length are, ap length is))

pub two_words : (text name rest : List ℕ) → words text ≡ name ∷ words rest → words rest ≡ rest ∷ [] → has_shape budget_slots (words text) ≡ false
two_words text name rest first second = no_budget text (λ bytes price is some more. omega (arith, ap length first, ap length second, ap length is))

-- a line whose words after the second are other ones
pub other_price : (text name bytes rest : List ℕ) → words text ≡ name ∷ bytes ∷ words rest → ((word : List ℕ) → words rest ≡ codes "price" ∷ word ∷ [] → length word ≡ 0)
    → has_shape budget_slots (words text) ≡ false
other_price text name bytes rest are none = no_budget text (λ b price is some more.
    let same : name ∷ bytes ∷ words rest ≡ four b price = sym are ∙ is in
    let last : words rest ≡ codes "price" ∷ price ∷ [] = cc in
    omega (arith, none price last, more))

-- a line with another name, or with no byte of a budget
pub other_budget : (text name bytes : List ℕ) (rest : List (List ℕ)) → words text ≡ name ∷ bytes ∷ rest → (name ≢ codes "budget") ⊎ (length bytes ≡ 0) → has_shape budget_slots (words text) ≡ false
other_budget text name bytes rest are why = no_budget text (λ b price is some more.
    let all : name ∷ bytes ∷ rest ≡ four b price = sym are ∙ is in
    let first : name ≡ codes "budget" = cc in
    let second : bytes ≡ b = cc in
    by why first (omega (arith, some, ap length second)))
  where
    by : (name ≢ codes "budget") ⊎ (length bytes ≡ 0) → name ≡ codes "budget" → 0 < length bytes → ⊥
    by (inl other) same some = other same
    by (inr empty) same some = omega (arith, empty, some)

-- the line of a budget without a fault has these words
pub text_budget : (text : List ℕ) → line_fault budget_slots text ≡ None → (bytes : List ℕ) × (price : List ℕ) × (words text ≡ four bytes price) × (0 < length bytes) × (0 < length price)
text_budget text fits = by (cases_Bool (has_shape budget_slots (words text)))
  where
    by : (has_shape budget_slots (words text) ≡ true) ⊎ (has_shape budget_slots (words text) ≡ false)
        → (bytes : List ℕ) × (price : List ℕ) × (words text ≡ four bytes price) × (0 < length bytes) × (0 < length price)
    by (inl shape) = budget_shape (words text) shape
    by (inr none) = let wrong : Some Shape ≡ None = sym (no_shape budget_slots text none) ∙ fits in cc

-- the text of four words
pub text_of_four : (text a b d e : List ℕ) → words text ≡ a ∷ b ∷ d ∷ e ∷ [] → text ≡ a ++ 32 ∷ (b ++ 32 ∷ (d ++ 32 ∷ e))
text_of_four text a b d e are = sym (join_with_byte-slice_split 32 text) ∙ ap (join_with_byte 32) are

-- where no warm-up is stated, the line is that of a budget
pub no_warmup_line : (text : List ℕ) → is_warmup text ≡ false → value_unless (line_fault (tenth_slots text) text) (tenth_in text) ≡ value_unless (line_fault budget_slots text) (Stated (budget_in text))
no_warmup_line text other = ap (λ b. value_unless (line_fault (cond b (number_line (codes "warmup") 1 (2 ^ 25)) budget_slots) text) (cond b (Warmup (number_at 1 text)) (Stated (budget_in text)))) other
