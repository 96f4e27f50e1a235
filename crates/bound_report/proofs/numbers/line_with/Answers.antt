use Rattle.std.proofs.Common.{rules, tests, nat_eq, ◌==◌}
use Rattle.std.specs.List.{starts_with}
use Rattle.std.proofs.lemmas.Iterator.Search.{find_from_yields_List}
use Rattle.std.proofs.lemmas.Iterator.Splits.{YieldsList-from_slice_split}
use Rattle.bound_report.proofs.numbers.line_with.Goals as goal

pub returns : goal.returns
returns c =
    find_from_yields_List (λ line. starts_with nat_eq line c.args.start.now) _ _ c.find.result c.find.ensures.ran
    (YieldsList-from_slice_split _ (λ byte. byte == 10) c.args.text.now c.split-lines.ensures.rest c.split-lines.ensures.done c.split-lines.ensures.closure (λ x b q k. search (rules, tests)))
    (λ x b q k. search rules)
