use Rattle.std.proofs.Common.{sym, ap, inr}
use Rattle.cert_format.specs.Grammar.{number_in, value_unless}
use Rattle.budget_format.specs.Grammar.{record_of}
use Rattle.budget_format.proofs.RecordShapes.{no_full}
use Rattle.budget_format.proofs.line.full_record.Goals as goal

pub returns-in-None : goal.returns-in-None
returns-in-None c =
    sym (ap (λ o. value_unless o (record_of (number_in c.args.price.now) c.args.rest.now)) (no_full c.args.before c.args.price.now c.args.rest.now (inr c.in-None.ensures.none)))
