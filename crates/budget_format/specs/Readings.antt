-- The reading of a certificate with a budget, over all its bytes at once.
use Rattle.std.specs.Prelude.{ℕ, suc, zero, ◌+◌, List, [], ◌∷◌, if◌then◌else◌, None, Some}
use Rattle.std.specs.declared.option.Option.{Option}
use Rattle.bound_io.specs.Lines.{first_text, after_line}
use Rattle.cert_format.specs.declared.fault.CertFault.{CertFault}
use Rattle.cert_format.specs.Grammar.{number_at}
use Rattle.cert_format.specs.Readings.{after_lines, end_fault, first_fault, is_warmup, line_text, lines_fault, objective_in, warmup_in}
use Rattle.budget_format.specs.declared.certificates.BudgetHeader.{BudgetHeader}
use Rattle.budget_format.specs.declared.certificates.BudgetRecord.{BudgetRecord}
use Rattle.budget_format.specs.Grammar.{budget_in, header_slots, record_in, record_slots}
use Rattle.budget_format.specs.Texts.{header_len}

-- the first fault of the lines before the records
abbrev pub header_fault : List ℕ → Option CertFault
header_fault bytes = lines_fault 1 (header_slots (number_at 1 (line_text 3 bytes)) (is_warmup (line_text 10 bytes))) bytes

-- the text of the line of the budget: the tenth, or the one after it if the tenth states a warm-up
abbrev pub budget_text : List ℕ → List ℕ
budget_text bytes = if is_warmup (line_text 10 bytes) then line_text 11 bytes else line_text 10 bytes

-- what the lines before the records state
unfoldable pub header_in : List ℕ → BudgetHeader
header_in bytes = record {
  objective = objective_in (line_text 2 bytes);
  capacity = number_at 1 (line_text 3 bytes);
  requests = number_at 1 (line_text 4 bytes);
  unit = number_at 1 (line_text 5 bytes);
  denominator = number_at 1 (line_text 6 bytes);
  upper = number_at 1 (line_text 8 bytes);
  lower = number_at 1 (line_text 9 bytes);
  warmup = warmup_in (line_text 10 bytes);
  budget = (budget_in (budget_text bytes)).bytes;
  price = (budget_in (budget_text bytes)).price;
}

-- the fault of the line of a record, which is line n, after one of the price `before`
abbrev pub record_fault : ℕ → ℕ → List ℕ → Option CertFault
record_fault before n bytes = first_fault n (record_slots before (first_text bytes)) bytes

-- the record that the first line states, after one of the price `before`
abbrev pub first_record : ℕ → List ℕ → BudgetRecord
first_record before bytes = record_in before (first_text bytes)

-- the header, if it can be read, the records before the first fault, and that fault, if there is one
pub record BudgetReading : Type 0 where
  pub header : Option BudgetHeader
  pub records : List BudgetRecord
  pub fault : Option CertFault

-- nothing more is read, for a fault or not
abbrev pub stopped : Option CertFault → BudgetReading
stopped fault = record { header = None; records = []; fault = fault }

-- a reading, unless a fault comes before it
abbrev pub unless : Option CertFault → BudgetReading → BudgetReading
unless None r = r
unless (Some fault) r = stopped (Some fault)

-- a record before the others of a reading
abbrev pub onto : BudgetRecord → BudgetReading → BudgetReading
onto entry r = record r { records = entry ∷ r.records }

-- a reading with its header
abbrev pub under : BudgetHeader → BudgetReading → BudgetReading
under h r = record r { header = Some h }

-- this number of records, from line n on and after one of the price `before`, and the end
unfoldable pub read_records : ℕ → ℕ → ℕ → List ℕ → BudgetReading
read_records before zero n bytes = stopped (end_fault n bytes)
read_records before (suc k) n bytes =
    let r = record_in before (first_text bytes) in
    unless (record_fault before n bytes) (onto r (read_records r.price k (n + 1) (after_line bytes)))

-- what stands after the lines of a header: its records, and the end
abbrev pub read_after : BudgetHeader → List ℕ → BudgetReading
read_after h bytes = read_records 0 h.requests (header_len h + 1) (after_lines (header_len h) bytes)

-- the reading of all the bytes of a certificate with a budget
abbrev pub reading : List ℕ → BudgetReading
reading bytes = unless (header_fault bytes) (under (header_in bytes) (read_after (header_in bytes) bytes))

-- the reading of a whole certificate
abbrev pub whole : BudgetHeader → List BudgetRecord → BudgetReading
whole h records = record { header = Some h; records = records; fault = None }
