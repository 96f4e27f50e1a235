-- Certificates with a budget of bytes to write: the ranges of their numbers.
use Rattle.std.specs.Prelude.{◌≡◌, ◌^◌, ◌<◌, ◌≤◌, List, length, All}
use Rattle.budget_format.specs.declared.certificates.BudgetHeader.{BudgetHeader}
use Rattle.budget_format.specs.declared.certificates.BudgetRecord.{BudgetRecord}

-- each number of the header is in the range that the text has for it
pub record IsBudgetHeader (h : BudgetHeader) : Type 0 where
  pub capacity : (1 ≤ h.capacity) × (h.capacity ≤ 2 ^ 56)
  pub requests : h.requests ≤ 2 ^ 25
  pub unit : (1 ≤ h.unit) × (h.unit ≤ h.capacity)
  pub denominator : (1 ≤ h.denominator) × (h.denominator ≤ 2 ^ 48)
  pub upper : h.upper < 2 ^ 127
  pub lower : h.lower < 2 ^ 127
  pub warmup : h.warmup ≤ 2 ^ 25
  pub budget : h.budget ≤ 2 ^ 80
  pub price : h.price ≤ 2 ^ 126

-- the price of a record is in its range
abbrev pub IsBudgetRecord : BudgetRecord → Type 0
IsBudgetRecord r = r.price ≤ 2 ^ 126

-- a header in range, and as many records in range as it says
pub record IsBudgetCertificate (h : BudgetHeader) (records : List BudgetRecord) : Type 0 where
  pub header : IsBudgetHeader h
  pub count : length records ≡ h.requests
  pub each : All IsBudgetRecord records
