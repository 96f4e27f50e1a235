use Rattle.std.proofs.Common.{arith}
use Rattle.std.proofs.lemmas.Grind.{common_steps}
use Rattle.cert_checker.proofs.stepping.added.Goals as goal

pub added_by_hit-requires-clause-header : goal.added_by_hit-requires-clause-header
added_by_hit-requires-clause-header c = grind (arith, common_steps)

pub added_by_hit-requires-clause-size : goal.added_by_hit-requires-clause-size
added_by_hit-requires-clause-size c = grind (arith, common_steps)

pub added_by_hit-requires-clause-prices : goal.added_by_hit-requires-clause-prices
added_by_hit-requires-clause-prices c = grind (arith, common_steps)

pub added_by_hit-requires-clause-flow : goal.added_by_hit-requires-clause-flow
added_by_hit-requires-clause-flow c = grind (arith, common_steps)

pub added_by_hit-requires-clause-weight : goal.added_by_hit-requires-clause-weight
added_by_hit-requires-clause-weight c = grind (arith, common_steps)

pub returns-in-Some-clause-sums : goal.returns-in-Some-clause-sums
returns-in-Some-clause-sums c = grind (arith, common_steps)

pub returns-in-Some-clause-small : goal.returns-in-Some-clause-small
returns-in-Some-clause-small c = grind (arith, common_steps)

pub returns-in-None-clause-sums : goal.returns-in-None-clause-sums
returns-in-None-clause-sums c = grind (arith, common_steps)

pub returns-in-None-clause-small : goal.returns-in-None-clause-small
returns-in-None-clause-small c = grind (arith, common_steps)
