-- The lines of a certificate, and what may be wrong with one.
use Rattle.std.specs.Prelude.{ℕ, ◌-◌, ◌^◌, List, [], ◌∷◌, ◌++◌, Bool, true, false, not, ◌==◌, ◌&&◌, ◌||◌, nat_le, nat_lt, Result, Ok, Err, if◌then◌else◌, length, map, slice_index, slice_index_or, codes, None, Some}
use Rattle.std.specs.declared.option.Option.{Option}
use Rattle.std.specs.Option.{option_or}
use Rattle.std.specs.List.{list_any, list_all, slice_split}
use Rattle.std.specs.Char.{is_ascii_digit}
use Rattle.std.specs.Str.{bytes_eq}
use Rattle.bound_base.specs.Digits.{value_after}
use Rattle.cache_model.specs.declared.version.TheConstants.{SHORT_VERSION}
use Rattle.cert_format.specs.declared.fault.TextKind.{TextKind}
use Rattle.cert_format.specs.declared.fault.TextKind.TheVariants.{Shape, Number, Range}

-- a place of a line, which has one of these words, or a number from low to high, or one from low to high that is not n
pub data Slot : Type 0 where
  OneOf : List (List ℕ) → Slot
  Within : ℕ → ℕ → Slot
  WithinBut : ℕ → ℕ → ℕ → Slot

-- the words of a line: what stands between its spaces, which may be empty
abbrev pub words : List ℕ → List (List ℕ)
words text = slice_split (λ byte. byte == 32) text

-- a line of fixed words
abbrev pub fixed_line : List ℕ → List Slot
fixed_line text = map (λ word. OneOf (word ∷ [])) (words text)

-- a name, and one of two words
abbrev pub choice_line : List ℕ → List ℕ → List ℕ → List Slot
choice_line name first second = OneOf (name ∷ []) ∷ OneOf (first ∷ second ∷ []) ∷ []

-- a name, and a number from low to high
abbrev pub number_line : List ℕ → ℕ → ℕ → List Slot
number_line name low high = OneOf (name ∷ []) ∷ Within low high ∷ []

-- the lines of the counts, if the first states this capacity
abbrev pub count_slots : ℕ → List (List Slot)
count_slots capacity =
    number_line (codes "capacity") 1 (2 ^ 56)
    ∷ number_line (codes "requests") 0 (2 ^ 25)
    ∷ number_line (codes "unit") 1 capacity
    ∷ number_line (codes "denominator") 1 (2 ^ 48)
    ∷ []

-- the lines of the values
abbrev pub value_slots : List (List Slot)
value_slots =
    number_line (codes "upper") 0 (2 ^ 127 - 1)
    ∷ number_line (codes "flow") 0 (2 ^ 127 - 1)
    ∷ number_line (codes "lower") 0 (2 ^ 127 - 1)
    ∷ []

-- the last lines before the records: that of the warm-up, if there is one, and one of a fixed word
abbrev pub last_slots : Bool → List (List Slot)
last_slots true = number_line (codes "warmup") 1 (2 ^ 25) ∷ fixed_line (codes "records") ∷ []
last_slots false = fixed_line (codes "records") ∷ []

-- the lines before the records, if the third states this capacity, and the eleventh a warm-up or none
abbrev pub header_slots : ℕ → Bool → List (List Slot)
header_slots capacity warm =
    choice_line (codes "cache-bound-certificate") (codes "1") (codes "2")
    ∷ choice_line (codes "objective") (codes "object") (codes "bytes")
    ∷ (count_slots capacity
    ++ choice_line (codes "form") (codes "exact") (codes "plain")
    ∷ (value_slots ++ last_slots warm))

-- keep and flow
abbrev pub short_slots : List Slot
short_slots = OneOf (codes "0" ∷ codes "1" ∷ []) ∷ Within 0 (2 ^ 48) ∷ []

-- price, keep and flow
abbrev pub full_slots : Slot → List Slot
full_slots price = price ∷ short_slots

-- the place of a price after the price `before`: the second version states no price that is equal to it
abbrev pub price_slot : ℕ → ℕ → Slot
price_slot version before = if version == SHORT_VERSION then WithinBut 0 (2 ^ 126) before else Within 0 (2 ^ 126)

-- the line of a record states no price: it has two words, in the second version
abbrev pub is_short : ℕ → List ℕ → Bool
is_short version text = (version == SHORT_VERSION) && (length (words text) == 2)

-- the places of the line of a record after one of the price `before`
abbrev pub record_slots : ℕ → ℕ → List ℕ → List Slot
record_slots version before text = if is_short version text then short_slots else full_slots (price_slot version before)

-- the line after the records
abbrev pub end_slots : List Slot
end_slots = fixed_line (codes "end")

-- the word may stand there, whatever number it writes
abbrev pub can_stand : Slot → List ℕ → Bool
can_stand (OneOf known) word = list_any (bytes_eq word) known
can_stand (Within low high) word = not (length word == 0)
can_stand (WithinBut low high n) word = not (length word == 0)

-- there are as many words as places, and each may stand in its place
abbrev pub has_shape : List Slot → List (List ℕ) → Bool
has_shape [] [] = true
has_shape [] (word ∷ others) = false
has_shape (slot ∷ slots) [] = false
has_shape (slot ∷ slots) (word ∷ others) = can_stand slot word && has_shape slots others

-- digits, of which the first is above 0 or the only one
abbrev pub is_canonical : List ℕ → Bool
is_canonical word = list_all is_ascii_digit word && ((length word == 1) || nat_lt 48 (slice_index word 0))

-- the number that a word writes
abbrev pub number_in : List ℕ → ℕ
number_in word = value_after 0 word

-- what is wrong with a word that should write a number from low to high
abbrev pub range_fault : ℕ → ℕ → List ℕ → Option TextKind
range_fault low high word =
    if not (is_canonical word) then Some Number
    else (if nat_le low (number_in word) && nat_le (number_in word) high then None else Some Range)

-- what is wrong with the number of a word
abbrev pub number_fault : Slot → List ℕ → Option TextKind
number_fault (OneOf known) word = None
number_fault (Within low high) word = range_fault low high word
number_fault (WithinBut low high n) word = option_or (range_fault low high word) (if number_in word == n then Some Range else None)

-- the first of these words whose number is wrong
abbrev pub first_number_fault : List Slot → List (List ℕ) → Option TextKind
first_number_fault [] others = None
first_number_fault (slot ∷ slots) [] = None
first_number_fault (slot ∷ slots) (word ∷ others) = option_or (number_fault slot word) (first_number_fault slots others)

-- what is wrong with the words of a line: their shape before their numbers, and those from left to right
abbrev pub words_fault : List Slot → List (List ℕ) → Option TextKind
words_fault slots given = if has_shape slots given then first_number_fault slots given else Some Shape

-- what is wrong with the text of a line
abbrev pub line_fault : List Slot → List ℕ → Option TextKind
line_fault slots text = words_fault slots (words text)

-- a word of a line, of which the first is 0
abbrev pub word_at : ℕ → List ℕ → List ℕ
word_at place text = slice_index_or (words text) place []

-- whether the second word is this one
abbrev pub has_second : List ℕ → List ℕ → Bool
has_second word text = bytes_eq (word_at 1 text) word

-- the number of a word of a line
abbrev pub number_at : ℕ → List ℕ → ℕ
number_at place text = number_in (word_at place text)

-- the value, unless there is a fault
abbrev pub value_unless : {A F : Type 0} → Option F → A → Result A F
value_unless None value = Ok value
value_unless (Some fault) value = Err fault
