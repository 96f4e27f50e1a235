-- The line of a record, as it is read: it has few bytes, and its record is in range.
use Rattle.std.proofs.Common.{◌≡◌, ℕ, ◌^◌, ◌≤◌, ap, List, length, arith, None, Some, Option, Result, IfOk, sym, refl, subst}
use Rattle.cert_format.specs.declared.fault.TextKind.{TextKind}
use Rattle.cert_format.specs.declared.fault.CertFault.{CertFault}
use Rattle.cert_format.specs.Lines.{of_line}
use Rattle.cert_format.specs.Grammar.{line_fault, value_unless}
use Rattle.budget_format.specs.declared.certificates.BudgetRecord.{BudgetRecord}
use Rattle.budget_format.specs.Budgets.{IsBudgetRecord}
use Rattle.budget_format.specs.Grammar.{record_in, record_slots}
use Rattle.budget_format.proofs.RecordSpellings.{record_is_line, record_spelled}

pub record_short : (before : ℕ) (text : List ℕ) → before ≤ 2 ^ 126 → line_fault (record_slots before text) text ≡ None → length text ≤ 63
record_short before text small fits =
    let is = record_spelled before text small fits in
    omega (arith, ap length is.1, (record_is_line before (record_in before text) is.0).1)

-- a record that is given is in range
pub in_range_of_line : (before n : ℕ) (text : List ℕ) (result : Result BudgetRecord CertFault) → before ≤ 2 ^ 126
    → result ≡ of_line n (value_unless (line_fault (record_slots before text) text) (record_in before text)) → IfOk result IsBudgetRecord
in_range_of_line before n text result small is = subst (λ r. IfOk r IsBudgetRecord) (sym is) (by (line_fault (record_slots before text) text) refl)
  where
    by : (o : Option TextKind) → line_fault (record_slots before text) text ≡ o → IfOk (of_line n (value_unless o (record_in before text))) IsBudgetRecord
    by None fits = (record_spelled before text small fits).0
    by (Some kind) fault = tt
