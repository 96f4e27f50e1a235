-- The line of a budget, and the one where a warm-up may stand, as they are read.
use Rattle.std.proofs.Common.{◌≡◌, ℕ, ◌^◌, ◌≤◌, ap, cond, Bool, true, false, List, ◌++◌, length, arith, codes, decimal, None, Some, Option, Result, IfOk, sym, refl, subst}
use Rattle.std.proofs.lemmas.List.{length-append}
use Rattle.cache_model.specs.Texts.{entry}
use Rattle.cert_format.specs.declared.fault.TextKind.{TextKind}
use Rattle.cert_format.specs.declared.fault.CertFault.{CertFault}
use Rattle.cert_format.specs.Lines.{of_line}
use Rattle.cert_format.specs.Readings.{is_warmup}
use Rattle.cert_format.specs.Grammar.{line_fault, number_at, number_line, value_unless}
use Rattle.cert_format.proofs.Decimals.{length-decimal}
use Rattle.cert_format.proofs.Short.{number_short}
use Rattle.cert_format.proofs.Spellings.{number_spelled}
use Rattle.budget_format.specs.declared.certificates.Budget.{Budget}
use Rattle.budget_format.specs.declared.certificates.TenthLine.{TenthLine}
use Rattle.budget_format.specs.declared.certificates.TenthLine.TheVariants.{Warmup, Budget as Stated}
use Rattle.budget_format.specs.Grammar.{budget_in, budget_slots, tenth_in, tenth_slots}
use Rattle.budget_format.specs.Parts.{IsBudgetInRange, IsTenthInRange}
use Rattle.budget_format.proofs.BudgetSpellings.{budget_spelled}

pub budget_short : (text : List ℕ) → line_fault budget_slots text ≡ None → length text ≤ 77
budget_short text fits =
    let is = budget_spelled text fits in
    let bytes = number_at 1 text in
    let price = number_at 3 text in
    omega (
      arith,
      ap length is.text_is,
      length-append (entry (codes "budget") bytes ++ codes " ") (entry (codes "price") price),
      length-append (entry (codes "budget") bytes) (codes " "),
      length-append (codes "budget ") (decimal bytes),
      length-append (codes "price ") (decimal price),
      length-decimal 25 bytes (omega arith) (omega (arith, is.bytes)) (omega (arith, is.bytes)),
      length-decimal 38 price (omega arith) (omega (arith, is.price)) (omega (arith, is.price)),
    )

pub budget_of_line : (n : ℕ) (text : List ℕ) (result : Result Budget CertFault) → result ≡ of_line n (value_unless (line_fault budget_slots text) (budget_in text)) → IfOk result IsBudgetInRange
budget_of_line n text result is = subst (λ r. IfOk r IsBudgetInRange) (sym is) (by (line_fault budget_slots text) refl)
  where
    by : (o : Option TextKind) → line_fault budget_slots text ≡ o → IfOk (of_line n (value_unless o (budget_in text))) IsBudgetInRange
    by None fits = let h = budget_spelled text fits in (h.bytes, h.price)
    by (Some kind) fault = tt

pub tenth_short : (text : List ℕ) → line_fault (tenth_slots text) text ≡ None → length text ≤ 77
tenth_short text fits = by (is_warmup text) fits
  where
    by : (warm : Bool) → line_fault (cond warm (number_line (codes "warmup") 1 (2 ^ 25)) budget_slots) text ≡ None → length text ≤ 77
    by true fit = omega (arith, number_short (codes "warmup") 1 (2 ^ 25) text fit (omega arith) (omega arith))
    by false fit = budget_short text fit

pub tenth_of_line : (n : ℕ) (text : List ℕ) (result : Result TenthLine CertFault) → result ≡ of_line n (value_unless (line_fault (tenth_slots text) text) (tenth_in text)) → IfOk result IsTenthInRange
tenth_of_line n text result is = subst (λ r. IfOk r IsTenthInRange) (sym is) (by (line_fault (tenth_slots text) text) refl)
  where
    ranged : (warm : Bool) → line_fault (cond warm (number_line (codes "warmup") 1 (2 ^ 25)) budget_slots) text ≡ None → IsTenthInRange (cond warm (Warmup (number_at 1 text)) (Stated (budget_in text)))
    ranged true fit = let h = number_spelled (codes "warmup") 1 (2 ^ 25) text fit (omega arith) in (h.0, h.1)
    ranged false fit = let h = budget_spelled text fit in (h.bytes, h.price)

    by : (o : Option TextKind) → line_fault (tenth_slots text) text ≡ o → IfOk (of_line n (value_unless o (tenth_in text))) IsTenthInRange
    by None fits = ranged (is_warmup text) fits
    by (Some kind) fault = tt
