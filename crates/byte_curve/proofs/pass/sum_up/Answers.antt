use Rattle.std.proofs.Common.{arith}
use Rattle.byte_curve.proofs.FoundLemmas.{summed-fits}
use Rattle.byte_curve.proofs.pass.sum_up.Goals as goal

pub plus-requires-clause-hits : goal.plus-requires-clause-hits
plus-requires-clause-hits c = (summed-fits c.args.found.now c.loop-k.found c.loop-k.k (omega arith) (omega arith) c.loop-k.invariant c.requires.hits c.requires.bytes).0

pub plus-requires-clause-bytes : goal.plus-requires-clause-bytes
plus-requires-clause-bytes c = (summed-fits c.args.found.now c.loop-k.found c.loop-k.k (omega arith) (omega arith) c.loop-k.invariant c.requires.hits c.requires.bytes).1
