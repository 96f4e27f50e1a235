use Rattle.std.proofs.Common.{arith}
use Rattle.stack_curve.proofs.CountLemmas.{summed-fits}
use Rattle.stack_curve.proofs.pass.sum_up.Goals as goal

pub overflow_add-counts : goal.overflow_add-counts
overflow_add-counts c = omega (arith, summed-fits c.args.counts.now c.loop-k.counts c.loop-k.k (omega arith) (omega arith) c.requires.small c.loop-k.invariant)
