-- Lines and certificates with a budget, worked out by hand.
use Rattle.std.proofs.Common.{◌≡◌, ℕ, Bool, ◌∷◌, [], List, codes, refl, Some, None, Option, true, false}
use Rattle.std.specs.Fmt.{digits}
use Rattle.cache_model.specs.declared.objects.Objective.TheVariants.{Object as Hits}
use Rattle.cache_model.specs.Texts.{text_of}
use Rattle.cert_format.specs.declared.fault.TextKind.{TextKind}
use Rattle.cert_format.specs.declared.fault.TextKind.TheVariants.{Shape, Number, Range}
use Rattle.cert_format.specs.declared.fault.CertFault.TheVariants.{BadText, Truncated}
use Rattle.cert_format.specs.Grammar.{line_fault}
use Rattle.cert_format.specs.Readings.{after_lines}
use Rattle.budget_format.specs.declared.certificates.BudgetHeader.{BudgetHeader}
use Rattle.budget_format.specs.declared.certificates.BudgetRecord.{BudgetRecord}
use Rattle.budget_format.specs.Texts.{certificate_text, header_len}
use Rattle.budget_format.specs.Grammar.{budget_slots, record_slots}
use Rattle.budget_format.specs.Readings.{header_in, read_records, reading, stopped, whole}

-- what is wrong with the line of a budget
budget_line_fits : line_fault budget_slots (codes "budget 6 price 0") ≡ None
budget_line_fits = refl

no_price : line_fault budget_slots (codes "budget 6") ≡ Some Shape
no_price = refl

no_bytes : line_fault budget_slots (codes "budget  price 0") ≡ Some Shape
no_bytes = refl

great_budget : line_fault budget_slots (codes "budget 1208925819614629174706177 price 00") ≡ Some Range
great_budget = refl

greatest_budget : line_fault budget_slots (codes "budget 1208925819614629174706176 price 00") ≡ Some Number
greatest_budget = refl

-- what is wrong with the line of a record, after one of the price `before`
abbrev entry_fault : ℕ → List ℕ → Option TextKind
entry_fault before text = line_fault (record_slots before text) text

keep_alone : entry_fault 5 (codes "1") ≡ None
keep_alone = refl

other_price : entry_fault 5 (codes "4 1") ≡ None
other_price = refl

same_price : entry_fault 5 (codes "5 1") ≡ Some Range
same_price = refl

other_keep : entry_fault 5 (codes "2") ≡ Some Shape
other_keep = refl

with_flow : entry_fault 5 (codes "4 1 0") ≡ Some Shape
with_flow = refl

leading_zero : entry_fault 5 (codes "04 1") ≡ Some Number
leading_zero = refl

no_words : entry_fault 5 [] ≡ Some Shape
no_words = refl

-- the header of three requests at capacity 3, with a warm-up or none
abbrev header : ℕ → BudgetHeader
header warmup = record { objective = Hits; capacity = 3; requests = 3; unit = 1; denominator = 4; upper = 24; lower = 2; warmup = warmup; budget = 1; price = 2 }

abbrev entry : ℕ → Bool → BudgetRecord
entry price keep = record { price = price; keep = keep }

abbrev records : List BudgetRecord
records = entry 1 true ∷ entry 1 false ∷ entry 0 false ∷ []

abbrev text : List ℕ
text = text_of (
    codes "cache-bound-certificate 3"
    ∷ codes "objective object"
    ∷ codes "capacity 3"
    ∷ codes "requests 3"
    ∷ codes "unit 1"
    ∷ codes "denominator 4"
    ∷ codes "form plain"
    ∷ codes "upper 24"
    ∷ codes "lower 2"
    ∷ codes "budget 1 price 2"
    ∷ codes "records"
    ∷ codes "1 1"
    ∷ codes "0"
    ∷ codes "0 0"
    ∷ codes "end"
    ∷ [])

-- it is written so
written : certificate_text (header 0) records ≡ text
unfolding digits
written = refl

warm : header_len (header 2) ≡ 12
unfolding header_len digits
warm = refl

-- and read so
read : reading text ≡ whole (header 0) records
unfolding header_in after_lines header_len read_records digits
read = refl

-- a text that ends in its header, and one that has a flow
cut : reading (text_of (codes "cache-bound-certificate 3" ∷ codes "objective object" ∷ [])) ≡ stopped (Some (Truncated 3))
cut = refl

flow : reading (text_of (codes "cache-bound-certificate 3" ∷ codes "objective object" ∷ codes "capacity 3" ∷ codes "requests 0" ∷ codes "unit 1" ∷ codes "denominator 1" ∷ codes "form plain" ∷ codes "upper 0" ∷ codes "flow 0" ∷ [])) ≡ stopped (Some (BadText 9 Shape))
unfolding after_lines
flow = refl
