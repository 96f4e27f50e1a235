use Rattle.std.proofs.Common.{◌≡◌, ◌∙◌, sym, ap, false, Ok}
use Rattle.std.proofs.lemmas.Result.{err_from_is_err_and}
use Rattle.cert_format.specs.Grammar.{line_fault, value_unless}
use Rattle.cert_format.specs.Readings.{is_warmup}
use Rattle.cert_format.proofs.Shapes.{fault_of_err, none_of_ok}
use Rattle.budget_format.specs.declared.certificates.TenthLine.TheVariants.{Budget as Stated}
use Rattle.budget_format.specs.Grammar.{budget_in, budget_slots}
use Rattle.budget_format.proofs.BudgetShapes.{no_warmup_line}
use Rattle.budget_format.proofs.line.tenth_after.Goals as goal

pub returns-in_err-budget_after : goal.returns-in_err-budget_after
returns-in_err-budget_after c =
    let text = c.args.text.now in
    let p = err_from_is_err_and c.from_residual-in_err-budget_after.result c.from_residual-in_err-budget_after.ensures.1 in
    let other : is_warmup text ≡ false = sym c.states_warmup.ensures ∙ c.if-states_warmup.false in
    let fault = fault_of_err (line_fault budget_slots text) (budget_in text) c.in_err-budget_after.field-0.0 (sym c.in_err-budget_after.was ∙ c.budget_after.ensures) in
    rw (p.1, p.2) (sym (no_warmup_line text other ∙ ap (λ o. value_unless o (Stated (budget_in text))) fault))

pub returns : goal.returns
returns c =
    let text = c.args.text.now in
    let other : is_warmup text ≡ false = sym c.states_warmup.ensures ∙ c.if-states_warmup.false in
    let is = none_of_ok (line_fault budget_slots text) (budget_in text) c.in_ok-budget_after.field-0 (sym c.in_ok-budget_after.was ∙ c.budget_after.ensures) in
    sym (no_warmup_line text other ∙ (ap (λ o. value_unless o (Stated (budget_in text))) is.0 ∙ ap (λ b. Ok (Stated b)) (sym is.1)))
