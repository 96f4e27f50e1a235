-- The lines of a certificate with a budget, and what they state.
use Rattle.std.specs.Prelude.{ℕ, ◌-◌, ◌^◌, List, [], ◌∷◌, ◌++◌, Bool, true, false, ◌==◌, if◌then◌else◌, length, codes}
use Rattle.std.specs.Str.{bytes_eq}
use Rattle.cert_format.specs.Grammar.{Slot, OneOf, Within, WithinBut, choice_line, count_slots, fixed_line, number_at, number_line, word_at, words}
use Rattle.cert_format.specs.Readings.{is_warmup}
use Rattle.budget_format.specs.declared.certificates.Budget.{Budget}
use Rattle.budget_format.specs.declared.certificates.BudgetRecord.{BudgetRecord}
use Rattle.budget_format.specs.declared.certificates.TenthLine.{TenthLine}
use Rattle.budget_format.specs.declared.certificates.TenthLine.TheVariants.{Warmup, Budget as Stated}

-- the line of a budget and its price
abbrev pub budget_slots : List Slot
budget_slots = OneOf (codes "budget" ∷ []) ∷ Within 0 (2 ^ 80) ∷ OneOf (codes "price" ∷ []) ∷ Within 0 (2 ^ 126) ∷ []

-- the budget and the price that such a line states
abbrev pub budget_in : List ℕ → Budget
budget_in text = record { bytes = number_at 1 text; price = number_at 3 text }

-- the line after the lower bound: that of a warm-up, if its first word says so, or else that of the budget
abbrev pub tenth_slots : List ℕ → List Slot
tenth_slots text = if is_warmup text then number_line (codes "warmup") 1 (2 ^ 25) else budget_slots

-- what it states
abbrev pub tenth_in : List ℕ → TenthLine
tenth_in text = if is_warmup text then Warmup (number_at 1 text) else Stated (budget_in text)

-- the last lines before the records: that of the warm-up, if there is one, that of the budget, and one of a fixed word
abbrev pub last_slots : Bool → List (List Slot)
last_slots true = number_line (codes "warmup") 1 (2 ^ 25) ∷ budget_slots ∷ fixed_line (codes "records") ∷ []
last_slots false = budget_slots ∷ fixed_line (codes "records") ∷ []

-- the lines before the records, if the third states this capacity, and the tenth a warm-up or none
abbrev pub header_slots : ℕ → Bool → List (List Slot)
header_slots capacity warm =
    fixed_line (codes "cache-bound-certificate 3")
    ∷ choice_line (codes "objective") (codes "object") (codes "bytes")
    ∷ (count_slots capacity
    ++ fixed_line (codes "form plain")
    ∷ number_line (codes "upper") 0 (2 ^ 127 - 1)
    ∷ number_line (codes "lower") 0 (2 ^ 127 - 1)
    ∷ last_slots warm)

-- a keep alone
abbrev pub short_slots : List Slot
short_slots = OneOf (codes "0" ∷ codes "1" ∷ []) ∷ []

-- a price that is not equal to the one before, and a keep
abbrev pub full_slots : ℕ → List Slot
full_slots before = WithinBut 0 (2 ^ 126) before ∷ short_slots

-- the line of a record states no price: it is one word
abbrev pub is_short : List ℕ → Bool
is_short text = length (words text) == 1

-- the places of the line of a record after one of the price `before`
abbrev pub record_slots : ℕ → List ℕ → List Slot
record_slots before text = if is_short text then short_slots else full_slots before

-- the record of a price and the word of a keep
abbrev pub record_of : ℕ → List ℕ → BudgetRecord
record_of price keep = record { price = price; keep = bytes_eq keep (codes "1") }

-- what the line of a record states, after one of the price `before`
abbrev pub record_in : ℕ → List ℕ → BudgetRecord
record_in before text = if is_short text then record_of before (word_at 0 text) else record_of (number_at 0 text) (word_at 1 text)
