use Rattle.std.proofs.Common.{heap_items}
use Rattle.replay_rank.proofs.AdmittedOrdered.{first-above}
use Rattle.replay_rank.proofs.gdsf98.pop_at_most.Goals as goal

pub returns-then-rank-most-clause-above : goal.returns-then-rank-most-clause-above
returns-then-rank-most-clause-above c =
    first-above c.args.most c.in_ok-rank.field-0.now (heap_items c.args.order.now) c.if-rank-most.true (c.in_ok-rank.ensures.greatest c.requires.heap)
