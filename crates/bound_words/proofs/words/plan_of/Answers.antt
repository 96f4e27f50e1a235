use Rattle.std.proofs.Common.{rules, ◌≡◌, map, string_bytes, sym, subst, IfOk}
use Rattle.bound_words.specs.Words.{HasNeeded, plan}
use Rattle.bound_words.proofs.Needed.{plan-has-needed}
use Rattle.bound_words.proofs.words.plan_of.Goals as goal

pub returns-clause-needed : goal.returns-clause-needed
unfolding plan
returns-clause-needed c =
    let same : c.plan_of_operands.result ≡ plan (map string_bytes c.args.words.now) = search rules in
    subst (λ read. IfOk read (λ plan. HasNeeded (map string_bytes c.args.words.now))) (sym same) (plan-has-needed (map string_bytes c.args.words.now))
