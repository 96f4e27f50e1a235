use Rattle.std.proofs.Common.{◌∙◌}
use Rattle.budget_format.proofs.RecordShapes.{of_full}
use Rattle.budget_format.proofs.line.record_after.Goals as goal

pub returns-in-Some : goal.returns-in-Some
returns-in-Some c = c.full_record.ensures ∙ of_full c.args.before c.args.text.now c.in-Some.price.now c.in-Some.rest.now c.in-Some.ensures.some
