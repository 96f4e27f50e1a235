use Rattle.std.proofs.Common.{arith, ap, length}
use Rattle.bound_run.proofs.relaxed.by_flow.Goals as goal

pub upper_of-requires-clause-few : goal.upper_of-requires-clause-few
upper_of-requires-clause-few c = omega (arith, c.requires.timeline.few_steps, c.in_ok-solution.ensures.each, ap length c.prices.ensures)
