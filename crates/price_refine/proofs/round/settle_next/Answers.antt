use Rattle.std.proofs.Common.{arith, length}
use Rattle.price_refine.proofs.BlockPlaces.{counted_kept, settled_none}
use Rattle.price_refine.proofs.round.settle_next.Goals as goal

pub returns-then-block-clause-settled : goal.returns-then-block-clause-settled
returns-then-block-clause-settled c = settled_none c.args.block c.args.items.now c.args.pricing.now.prices.items (omega (arith, c.if-block.true))

pub settle-requires-clause-counted : goal.settle-requires-clause-counted
settle-requires-clause-counted c =
    let open_now = c.in_ok-gather.ensures.«open» in
    rw c.deref.ensures.value
    (counted_kept (length c.args.pricing.now.prices.items) c.args.block.unit open_now.since c.gather.new.gathered.next c.args.items.now c.gather.new.gathered.met.items c.requires.counted open_now.kept)
