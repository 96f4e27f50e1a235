use Rattle.std.proofs.Common.{◌∙◌, ◌&&◌, ap, sym}
use Rattle.bound_run.proofs.bounds.is_exact.Goals as goal

pub returns-then-is_unwindowed : goal.returns-then-is_unwindowed
returns-then-is_unwindowed c = ap (λ b. b && c.args.whole_costs) (sym c.if-is_unwindowed.true ∙ c.is_unwindowed.ensures)

pub returns-else-is_unwindowed : goal.returns-else-is_unwindowed
returns-else-is_unwindowed c = c.if-is_unwindowed.false ∙ ap (λ b. b && c.args.whole_costs) (sym c.if-is_unwindowed.false ∙ c.is_unwindowed.ensures)
