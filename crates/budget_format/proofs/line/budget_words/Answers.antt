use Rattle.std.proofs.Common.{◌∙◌, ap, ◌∷◌}
use Rattle.budget_format.proofs.BudgetShapes.{other_price}
use Rattle.budget_format.proofs.line.budget_words.Goals as goal

pub returns-in_err-price-clause-none : goal.returns-in_err-price-clause-none
returns-in_err-price-clause-none c =
    let name = c.in_ok-name.name.now in
    rw c.from_residual-in_err-price.ensures
    (other_price c.args.text.now name c.in_ok-bytes.bytes.now c.in_ok-bytes.rest.now (c.in_ok-name.ensures.some ∙ ap (λ ws. name ∷ ws) c.in_ok-bytes.ensures.some) c.in_err-price.ensures.none)
