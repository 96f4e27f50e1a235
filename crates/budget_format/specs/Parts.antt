-- The parts of a header that are read one after another.
use Rattle.std.specs.Prelude.{◌==◌, ℕ, ◌+◌, ◌*◌, ◌-◌, ◌^◌, ◌<◌, ◌≤◌, nat_le, List, ◌∷◌, if◌then◌else◌, codes, Bool, Result, Ok, Err, None}
use Rattle.std.specs.declared.option.Option.{Option}
use Rattle.bound_io.specs.Devices.{Device, device}
use Rattle.bound_io.specs.Lines.{first_text}
use Rattle.bound_io.specs.Positions.{Position}
use Rattle.bound_io.specs.Reading.{LosesPrefix}
use Rattle.cert_format.specs.declared.fault.CertFault.{CertFault}
use Rattle.cert_format.specs.Grammar.{Slot, number_at, number_line}
use Rattle.cert_format.specs.Lines.{IsTaken, Reads}
use Rattle.cert_format.specs.Readings.{first_fault, is_warmup, line_text, lines_fault, warmup_in}
use Rattle.budget_format.specs.declared.certificates.Budget.{Budget}
use Rattle.budget_format.specs.declared.certificates.BudgetHeader.{BudgetHeader}
use Rattle.budget_format.specs.declared.certificates.TenthLine.{TenthLine}
use Rattle.budget_format.specs.declared.certificates.TenthLine.TheVariants.{Warmup, Budget as Stated}
use Rattle.budget_format.specs.declared.header.Tail.{Tail}
use Rattle.budget_format.specs.Grammar.{budget_in, budget_slots, last_slots, tenth_in, tenth_slots}
use Rattle.budget_format.specs.Texts.{header_len}

-- what a source has left, if the lines so far have 16 bytes fewer than 64 each: a line of a budget has up to 14 more
abbrev pub roomy : Position → Option (List ℕ) → Option (List ℕ)
roomy at left = if nat_le (at.consumed + 16) (64 * at.line) then left else None

-- the next line is read, which may be that of a budget, and what it states is known if there is room for it
pub record ReadsWide {A : Type 0} (fault_from : ℕ → List ℕ → Option CertFault) (value : List ℕ → A) (old new : Position) (source : Device) (result : Result A CertFault) : Type 0 where
  pub reads : Reads (fault_from (old.line + 1)) 1 value old new (device (roomy old source.before) source.after source.faults_before source.faults_after) result
  pub taken : IsTaken old new source.before source.after
  pub loses : LosesPrefix source.before source.after

-- a budget and its price are in their ranges
abbrev pub IsBudgetInRange : Budget → Type 0
IsBudgetInRange b = (b.bytes ≤ 2 ^ 80) × (b.price ≤ 2 ^ 126)

-- what the tenth line states is in its range
abbrev pub IsTenthInRange : TenthLine → Type 0
IsTenthInRange (Warmup w) = (1 ≤ w) × (w ≤ 2 ^ 25)
IsTenthInRange (Stated b) = IsBudgetInRange b

-- the fault of the line of a budget, which is line n, and what it states
abbrev pub budget_fault : ℕ → List ℕ → Option CertFault
budget_fault n bytes = first_fault n budget_slots bytes

abbrev pub first_budget : List ℕ → Budget
first_budget bytes = budget_in (first_text bytes)

-- the fault of the line where a warm-up may stand, which is line n, and what it states
abbrev pub tenth_fault : ℕ → List ℕ → Option CertFault
tenth_fault n bytes = first_fault n (tenth_slots (first_text bytes)) bytes

abbrev pub first_tenth : List ℕ → TenthLine
first_tenth bytes = tenth_in (first_text bytes)

-- the lines from the lower bound on, and their first fault from line n on
abbrev pub tail_slots : Bool → List (List Slot)
tail_slots warm = number_line (codes "lower") 0 (2 ^ 127 - 1) ∷ last_slots warm

abbrev pub tail_fault : ℕ → List ℕ → Option CertFault
tail_fault n bytes = lines_fault n (tail_slots (is_warmup (line_text 2 bytes))) bytes

-- what they state
abbrev pub tail_in : List ℕ → Tail
tail_in bytes = record {
  lower = number_at 1 (first_text bytes);
  warmup = warmup_in (line_text 2 bytes);
  budget = budget_in (if is_warmup (line_text 2 bytes) then line_text 3 bytes else line_text 2 bytes);
}

-- each number of them is in its range
pub record IsTailInRange (tail : Tail) : Type 0 where
  pub lower : tail.lower < 2 ^ 127
  pub warmup : tail.warmup ≤ 2 ^ 25
  pub budget : IsBudgetInRange tail.budget

-- how many lines they are, by what was read
abbrev pub tail_len : Result Tail CertFault → ℕ
tail_len (Ok tail) = if tail.warmup == 0 then 3 else 4
tail_len (Err fault) = 0

-- how many lines a header that was read has
abbrev pub lines_read : Result BudgetHeader CertFault → ℕ
lines_read (Ok h) = header_len h
lines_read (Err fault) = 0
