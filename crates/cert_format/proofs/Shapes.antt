-- Which texts have the shape of a line.
use Rattle.std.proofs.Common.{◌≡◌, ◌≢◌, ℕ, ◌<◌, ◌∙◌, sym, refl, ap, Bool, true, false, ◌&&◌, ◌||◌, List, [], ◌∷◌, length, map, arith, Some, None, Option, inl, inr, ◌⊎◌, Ok, Err}
use Rattle.std.specs.Prelude.{slice_index_or}
use Rattle.std.specs.Option.{option_or}
use Rattle.std.specs.Result.{is_ok}
use Rattle.std.specs.Str.{bytes_eq}
use Rattle.std.proofs.lemmas.Bool.{true≢false, and_parts, and_from, or_cases, or_left, or_right, cases_Bool, ne_eqb, false_from_ne_true}
use Rattle.std.proofs.lemmas.Slice.Eq.{bytes_eq-Decides}
use Rattle.cert_format.specs.Grammar.{Slot, OneOf, Within, words, can_stand, has_shape, first_number_fault, number_fault, words_fault, line_fault, fixed_line, choice_line, number_line, number_at, number_in, word_at, value_unless}
use Rattle.cert_format.specs.declared.fault.TextKind.TheVariants.{Shape}
use Rattle.cert_format.proofs.Words.{text_of_words}

pub same_bytes : (xs ys : List ℕ) → bytes_eq xs ys ≡ true → xs ≡ ys
same_bytes xs ys same = (bytes_eq-Decides xs ys).0 same

pub bytes_same : (xs : List ℕ) → bytes_eq xs xs ≡ true
bytes_same xs = (bytes_eq-Decides xs xs).1 refl

-- a place of one word has that word
abbrev fixed : List ℕ → Slot
fixed word = OneOf (word ∷ [])

or_false : (b : Bool) → (b || false) ≡ true → b ≡ true
or_false true h = refl
or_false false h = h

pub stands_fixed : (known word : List ℕ) → can_stand (fixed known) word ≡ true → word ≡ known
stands_fixed known word stands = same_bytes word known (or_false (bytes_eq word known) stands)

pub fixed_stands : (word : List ℕ) → can_stand (fixed word) word ≡ true
fixed_stands word = or_left (bytes_eq word word) false (bytes_same word)

-- a line of fixed words
fixed_shape : (known given : List (List ℕ)) → has_shape (map fixed known) given ≡ true → given ≡ known
fixed_shape [] [] shape = refl
fixed_shape [] (g ∷ given) shape = absurd (true≢false (sym shape))
fixed_shape (k ∷ known) [] shape = absurd (true≢false (sym shape))
fixed_shape (k ∷ known) (g ∷ given) shape =
    let parts = and_parts (can_stand (fixed k) g) (has_shape (map fixed known) given) shape in
    let here : g ≡ k = stands_fixed k g parts.0 in
    let there : given ≡ known = fixed_shape known given parts.1 in
    cc

shape_fixed : (known : List (List ℕ)) → has_shape (map fixed known) known ≡ true
shape_fixed [] = refl
shape_fixed (k ∷ known) = and_from (can_stand (fixed k) k) (has_shape (map fixed known) known) (fixed_stands k) (shape_fixed known)

fixed_numbers : (known given : List (List ℕ)) → first_number_fault (map fixed known) given ≡ None
fixed_numbers [] given = refl
fixed_numbers (k ∷ known) [] = refl
fixed_numbers (k ∷ known) (g ∷ given) = fixed_numbers known given

-- the fault of the words of a line by their shape
pub no_words : (slots : List Slot) (given : List (List ℕ)) → has_shape slots given ≡ false → words_fault slots given ≡ Some Shape
no_words slots given none = rw none refl

pub of_words : (slots : List Slot) (given : List (List ℕ)) → has_shape slots given ≡ true → words_fault slots given ≡ first_number_fault slots given
of_words slots given shape = rw shape refl

-- the fault of a line by its shape
pub no_shape : (slots : List Slot) (text : List ℕ) → has_shape slots (words text) ≡ false → line_fault slots text ≡ Some Shape
no_shape slots text none = rw none refl

pub of_shape : (slots : List Slot) (text : List ℕ) → has_shape slots (words text) ≡ true → line_fault slots text ≡ first_number_fault slots (words text)
of_shape slots text shape = rw shape refl

pub fixed_fits : (line : List ℕ) → line_fault (fixed_line line) line ≡ None
fixed_fits line = of_shape (fixed_line line) line (shape_fixed (words line)) ∙ fixed_numbers (words line) (words line)

pub other_fixed : (line text : List ℕ) → text ≢ line → line_fault (fixed_line line) text ≡ Some Shape
other_fixed line text other = no_shape (fixed_line line) text (false_from_ne_true _ (λ shape. other (text_of_words text line (fixed_shape (words line) (words text) shape))))

-- a line of a fixed line without a fault is that line
pub fixed_only : (line text : List ℕ) → line_fault (fixed_line line) text ≡ None → text ≡ line
fixed_only line text fits = by (cases_Bool (has_shape (fixed_line line) (words text)))
  where
    by : (has_shape (fixed_line line) (words text) ≡ true) ⊎ (has_shape (fixed_line line) (words text) ≡ false) → text ≡ line
    by (inl shape) = text_of_words text line (fixed_shape (words line) (words text) shape)
    by (inr none) = let no : Some Shape ≡ None = sym (no_shape (fixed_line line) text none) ∙ fits in cc

-- a line of a name and another place
two_shape : (name : List ℕ) (slot : Slot) (given : List (List ℕ)) → has_shape (fixed name ∷ slot ∷ []) given ≡ true → (word : List ℕ) × (given ≡ name ∷ word ∷ []) × (can_stand slot word ≡ true)
two_shape name slot [] shape = absurd (true≢false (sym shape))
two_shape name slot (n ∷ []) shape = let parts = and_parts (can_stand (fixed name) n) false shape in absurd (true≢false (sym parts.1))
two_shape name slot (n ∷ word ∷ []) shape =
    let parts = and_parts (can_stand (fixed name) n) (can_stand slot word && true) shape in
    let named : n ≡ name = stands_fixed name n parts.0 in
    let stands = and_parts (can_stand slot word) true parts.1 in
    (word, ap (λ x. x ∷ word ∷ []) named, stands.0)
two_shape name slot (n ∷ word ∷ more ∷ others) shape =
    let parts = and_parts (can_stand (fixed name) n) (can_stand slot word && false) shape in
    let stands = and_parts (can_stand slot word) false parts.1 in
    absurd (true≢false (sym stands.1))

shape_two : (name : List ℕ) (slot : Slot) (word : List ℕ) → can_stand slot word ≡ true → has_shape (fixed name ∷ slot ∷ []) (name ∷ word ∷ []) ≡ true
shape_two name slot word stands = and_from (can_stand (fixed name) name) (can_stand slot word && true) (fixed_stands name) (and_from (can_stand slot word) true stands refl)

pub some_stands : (low high : ℕ) (word : List ℕ) → 0 < length word → can_stand (Within low high) word ≡ true
some_stands low high word some = rw (ne_eqb (length word) 0 (λ none. omega (arith, none))) refl

pub stands_some : (low high : ℕ) (word : List ℕ) → can_stand (Within low high) word ≡ true → 0 < length word
stands_some low high [] stands = absurd (true≢false (sym stands))
stands_some low high (x ∷ xs) stands = omega arith

pub or_none : {A : Type 0} (o : Option A) → option_or o None ≡ o
or_none None = refl
or_none (Some x) = refl

-- the number of a line
pub number_text : (name : List ℕ) (low high : ℕ) (text word : List ℕ) → words text ≡ name ∷ word ∷ [] → 0 < length word
    → (line_fault (number_line name low high) text ≡ number_fault (Within low high) word) × (number_at 1 text ≡ number_in word)
number_text name low high text word are some =
    let shape : has_shape (number_line name low high) (words text) ≡ true = rw are (shape_two name (Within low high) word (some_stands low high word some)) in (
      of_shape (number_line name low high) text shape ∙ (ap (first_number_fault (number_line name low high)) are ∙ or_none (number_fault (Within low high) word)),
      ap (λ ws. number_in (slice_index_or ws 1 [])) are,
    )

pub no_number_text : (name : List ℕ) (low high : ℕ) (text : List ℕ) → ((word : List ℕ) → words text ≡ name ∷ word ∷ [] → length word ≡ 0) → line_fault (number_line name low high) text ≡ Some Shape
no_number_text name low high text none = no_shape (number_line name low high) text (false_from_ne_true _ (λ shape.
    let found = two_shape name (Within low high) (words text) shape in
    omega (arith, none found.0 found.1, stands_some low high found.0 found.2)))

-- a line of a number, by its words
pub text_number : (name : List ℕ) (low high : ℕ) (text : List ℕ) → line_fault (number_line name low high) text ≡ None
    → (word : List ℕ) × (words text ≡ name ∷ word ∷ []) × (0 < length word) × (number_fault (Within low high) word ≡ None)
text_number name low high text fits = by (cases_Bool (has_shape (number_line name low high) (words text)))
  where
    by : (has_shape (number_line name low high) (words text) ≡ true) ⊎ (has_shape (number_line name low high) (words text) ≡ false)
        → (word : List ℕ) × (words text ≡ name ∷ word ∷ []) × (0 < length word) × (number_fault (Within low high) word ≡ None)
    by (inl shape) =
        let found = two_shape name (Within low high) (words text) shape in
        let some = stands_some low high found.0 found.2 in
        let same = number_text name low high text found.0 found.1 some in
        (found.0, found.1, some, sym same.0 ∙ fits)
    by (inr none) = let wrong : Some Shape ≡ None = sym (no_shape (number_line name low high) text none) ∙ fits in cc

-- one of two words
pub first_or_second : (first second word : List ℕ) → can_stand (OneOf (first ∷ second ∷ [])) word ≡ true → (word ≡ first) ⊎ (word ≡ second)
first_or_second first second word stands = by (or_cases (bytes_eq word first) (bytes_eq word second || false) stands)
  where
    by : (bytes_eq word first ≡ true) ⊎ ((bytes_eq word second || false) ≡ true) → (word ≡ first) ⊎ (word ≡ second)
    by (inl one) = inl (same_bytes word first one)
    by (inr other) = inr (same_bytes word second (or_false (bytes_eq word second) other))

first_stands : (first second : List ℕ) → can_stand (OneOf (first ∷ second ∷ [])) first ≡ true
first_stands first second = or_left (bytes_eq first first) (bytes_eq first second || false) (bytes_same first)

second_stands : (first second : List ℕ) → can_stand (OneOf (first ∷ second ∷ [])) second ≡ true
second_stands first second = or_right (bytes_eq second first) (bytes_eq second second || false) (or_left (bytes_eq second second) false (bytes_same second))

-- a line of a choice, by its word
pub choice_text : (name first second text word : List ℕ) → words text ≡ name ∷ word ∷ [] → can_stand (OneOf (first ∷ second ∷ [])) word ≡ true
    → (line_fault (choice_line name first second) text ≡ None) × (word_at 1 text ≡ word)
choice_text name first second text word are stands =
    let shape : has_shape (choice_line name first second) (words text) ≡ true = rw are (shape_two name (OneOf (first ∷ second ∷ [])) word stands) in
    (of_shape (choice_line name first second) text shape ∙ ap (first_number_fault (choice_line name first second)) are, ap (λ ws. slice_index_or ws 1 []) are)

pub no_choice_text : (name first second text : List ℕ) → ((word : List ℕ) → words text ≡ name ∷ word ∷ [] → (word ≢ first) × (word ≢ second)) → line_fault (choice_line name first second) text ≡ Some Shape
no_choice_text name first second text none = no_shape (choice_line name first second) text (false_from_ne_true _ (λ shape.
    let found = two_shape name (OneOf (first ∷ second ∷ [])) (words text) shape in
    by found.0 (none found.0 found.1) (first_or_second first second found.0 found.2)))
  where
    by : (word : List ℕ) → (word ≢ first) × (word ≢ second) → (word ≡ first) ⊎ (word ≡ second) → ⊥
    by word other (inl one) = other.0 one
    by word other (inr two) = other.1 two

pub text_choice : (name first second text : List ℕ) → line_fault (choice_line name first second) text ≡ None
    → (word : List ℕ) × (words text ≡ name ∷ word ∷ []) × ((word ≡ first) ⊎ (word ≡ second))
text_choice name first second text fits = by (cases_Bool (has_shape (choice_line name first second) (words text)))
  where
    by : (has_shape (choice_line name first second) (words text) ≡ true) ⊎ (has_shape (choice_line name first second) (words text) ≡ false)
        → (word : List ℕ) × (words text ≡ name ∷ word ∷ []) × ((word ≡ first) ⊎ (word ≡ second))
    by (inl shape) =
        let found = two_shape name (OneOf (first ∷ second ∷ [])) (words text) shape in
        (found.0, found.1, first_or_second first second found.0 found.2)
    by (inr none) = let wrong : Some Shape ≡ None = sym (no_shape (choice_line name first second) text none) ∙ fits in cc

-- a name that is another one
pub other_name : (name : List ℕ) (low high : ℕ) (text : List ℕ) → bytes_eq (word_at 0 text) name ≡ false → line_fault (number_line name low high) text ≡ Some Shape
other_name name low high text other = no_number_text name low high text (λ word are.
    let first : word_at 0 text ≡ name = ap (λ ws. slice_index_or ws 0 []) are in
    absurd (true≢false (sym (ap (λ w. bytes_eq w name) first ∙ bytes_same name) ∙ other)))

-- the fault, or the value, of an answer
pub fault_of_err : {A F : Type 0} (o : Option F) (value : A) (fault : F) → Err fault ≡ value_unless o value → o ≡ Some fault
fault_of_err None value fault is = absurd (true≢false (sym (ap is_ok is)))
fault_of_err (Some other) value fault is = let same : fault ≡ other = cc in ap (λ f. Some f) (sym same)

pub none_of_ok : {A F : Type 0} (o : Option F) (value given : A) → Ok given ≡ value_unless o value → (o ≡ None) × (given ≡ value)
none_of_ok None value given is = let same : given ≡ value = cc in (refl, same)
none_of_ok (Some other) value given is = absurd (true≢false (ap is_ok is))
