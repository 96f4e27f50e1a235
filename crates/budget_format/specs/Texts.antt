-- The text of a certificate with a budget, as bytes.
use Rattle.std.specs.Prelude.{ℕ, ◌==◌, if◌then◌else◌, List, [], ◌∷◌, ◌++◌, codes, decimal, length}
use Rattle.cache_model.specs.Texts.{entry, keep_digit, objective_word, text_of}
use Rattle.budget_format.specs.declared.certificates.BudgetHeader.{BudgetHeader}
use Rattle.budget_format.specs.declared.certificates.BudgetRecord.{BudgetRecord}

-- the line of the warm-up, which is stated only if there is one
abbrev pub warmup_lines : ℕ → List (List ℕ)
warmup_lines warmup = if warmup == 0 then [] else entry (codes "warmup") warmup ∷ []

-- the line of a budget and its price
abbrev pub budget_line : ℕ → ℕ → List ℕ
budget_line budget price = entry (codes "budget") budget ++ codes " " ++ entry (codes "price") price

-- the lines from the warm-up on
abbrev pub last_lines : BudgetHeader → List (List ℕ)
last_lines h = warmup_lines h.warmup ++ budget_line h.budget h.price ∷ codes "records" ∷ []

-- the lines before the records; the first says what the file is, and that its text is of version 3
abbrev pub header_lines : BudgetHeader → List (List ℕ)
header_lines h =
    codes "cache-bound-certificate 3"
    ∷ (codes "objective " ++ objective_word h.objective)
    ∷ entry (codes "capacity") h.capacity
    ∷ entry (codes "requests") h.requests
    ∷ entry (codes "unit") h.unit
    ∷ entry (codes "denominator") h.denominator
    ∷ codes "form plain"
    ∷ entry (codes "upper") h.upper
    ∷ entry (codes "lower") h.lower
    ∷ last_lines h

-- how many lines stand before the records
unfoldable pub header_len : BudgetHeader → ℕ
header_len h = length (header_lines h)

-- the line of a record after one of the price `before`: the price and the keep, or the keep alone if the price is equal to that before
abbrev pub record_line : ℕ → BudgetRecord → List ℕ
record_line before r = if r.price == before then decimal (keep_digit r.keep) else entry (decimal r.price) (keep_digit r.keep)

-- the lines of records, after one of the price `before`
abbrev pub record_lines : ℕ → List BudgetRecord → List (List ℕ)
record_lines before [] = []
record_lines before (r ∷ records) = record_line before r ∷ record_lines r.price records

-- the text of a certificate with a budget; the first record comes after the price 0
abbrev pub certificate_text : BudgetHeader → List BudgetRecord → List ℕ
certificate_text h records = text_of (header_lines h ++ record_lines 0 records ++ codes "end" ∷ [])
