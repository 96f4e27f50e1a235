-- The parts of a header that are read one after another.
use Rattle.std.specs.Prelude.{ℕ, ◌^◌, ◌<◌, ◌≤◌, List, length, if◌then◌else◌, codes, Result, Ok, Err}
use Rattle.std.specs.declared.option.Option.{Option}
use Rattle.cert_format.specs.declared.header.Counts.{Counts}
use Rattle.cert_format.specs.declared.header.Values.{Values}
use Rattle.bound_io.specs.Lines.{first_text}
use Rattle.cache_model.specs.Texts.{last_lines}
use Rattle.cache_model.specs.declared.certificates.Record.{Record}
use Rattle.cert_format.specs.declared.fault.CertFault.{CertFault}
use Rattle.cert_format.specs.Grammar.{Slot, count_slots, fixed_line, last_slots, number_at, number_line, value_slots}
use Rattle.cert_format.specs.Readings.{first_fault, is_warmup, line_text, lines_fault, record_in, warmup_in}

-- the counts that four lines state
abbrev pub counts_in : List ℕ → Counts
counts_in bytes = record { capacity = number_at 1 (line_text 1 bytes); requests = number_at 1 (line_text 2 bytes); unit = number_at 1 (line_text 3 bytes); denominator = number_at 1 (line_text 4 bytes) }

-- the first fault of those lines, from line n on: the unit is at most the capacity
abbrev pub counts_fault : ℕ → List ℕ → Option CertFault
counts_fault n bytes = lines_fault n (count_slots (number_at 1 (first_text bytes))) bytes

-- the values that three lines state
abbrev pub values_in : List ℕ → Values
values_in bytes = record { upper = number_at 1 (line_text 1 bytes); flow = number_at 1 (line_text 2 bytes); lower = number_at 1 (line_text 3 bytes) }

-- the first fault of those lines, from line n on
abbrev pub values_fault : ℕ → List ℕ → Option CertFault
values_fault n bytes = lines_fault n value_slots bytes

-- each count is in its range
pub record IsCountsInRange (counts : Counts) : Type 0 where
  pub capacity : (1 ≤ counts.capacity) × (counts.capacity ≤ 2 ^ 56)
  pub requests : counts.requests ≤ 2 ^ 25
  pub unit : (1 ≤ counts.unit) × (counts.unit ≤ counts.capacity)
  pub denominator : (1 ≤ counts.denominator) × (counts.denominator ≤ 2 ^ 48)

-- each value is in its range
pub record IsValuesInRange (values : Values) : Type 0 where
  pub upper : values.upper < 2 ^ 127
  pub flow : values.flow < 2 ^ 127
  pub lower : values.lower < 2 ^ 127

-- the places of the line where a warm-up would stand
abbrev pub warmup_slots : List ℕ → List Slot
warmup_slots text = if is_warmup text then number_line (codes "warmup") 1 (2 ^ 25) else fixed_line (codes "records")

-- the fault of that line, which is line n
abbrev pub warmup_fault : ℕ → List ℕ → Option CertFault
warmup_fault n bytes = first_fault n (warmup_slots (first_text bytes)) bytes

-- the warm-up that it states, or 0
abbrev pub first_warmup : List ℕ → ℕ
first_warmup bytes = warmup_in (first_text bytes)

-- the first fault of the last lines before the records, from line n on
abbrev pub last_fault : ℕ → List ℕ → Option CertFault
last_fault n bytes = lines_fault n (last_slots (is_warmup (first_text bytes))) bytes

-- how many lines those are, by the warm-up that was read
abbrev pub last_len : Result ℕ CertFault → ℕ
last_len (Ok warmup) = length (last_lines warmup)
last_len (Err fault) = 0

-- the record that the first line states, after one of the price `before`
abbrev pub first_record : ℕ → ℕ → List ℕ → Record
first_record version before bytes = record_in version before (first_text bytes)
