-- What is proved of the text of certificates with a budget.
use Rattle.std.specs.Prelude.{◌≡◌, List, ℕ, None, IfSome, All}
use Rattle.budget_format.specs.declared.certificates.BudgetHeader.{BudgetHeader}
use Rattle.budget_format.specs.declared.certificates.BudgetRecord.{BudgetRecord}
use Rattle.budget_format.specs.Budgets.{IsBudgetCertificate, IsBudgetHeader, IsBudgetRecord}
use Rattle.budget_format.specs.Texts.{certificate_text}
use Rattle.budget_format.specs.Readings.{reading, whole}

-- the text of a certificate is read as that certificate
abbrev pub WrittenIsRead : Type 0
WrittenIsRead = (h : BudgetHeader) (records : List BudgetRecord) → IsBudgetCertificate h records → reading (certificate_text h records) ≡ whole h records

-- what is read without a fault is a certificate, and the bytes are its text
pub record IsSpelled (bytes : List ℕ) (h : BudgetHeader) (records : List BudgetRecord) : Type 0 where
  pub read : reading bytes ≡ whole h records
  pub certificate : IsBudgetCertificate h records
  pub text : bytes ≡ certificate_text h records

-- bytes without a fault are the text of a certificate
abbrev pub ReadIsWritten : Type 0
ReadIsWritten = (bytes : List ℕ) → (reading bytes).fault ≡ None → (h : BudgetHeader) × (records : List BudgetRecord) × IsSpelled bytes h records

-- what is read before a fault is in range
abbrev pub ReadIsInRange : Type 0
ReadIsInRange = (bytes : List ℕ) → IfSome (reading bytes).header IsBudgetHeader × All IsBudgetRecord (reading bytes).records
