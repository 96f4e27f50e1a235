use Rattle.std.proofs.Common.{arith}
use Rattle.bound_words.proofs.RisingLists.{list-decided}
use Rattle.bound_words.proofs.capacities.are_capacities.Goals as goal

pub returns : goal.returns
returns c = list-decided c.args.value.now c.loop-at.last c.loop-at._at c.loop-at.left c.is_none.result c.is_none.ensures (omega arith) c.loop-at.invariant.counted c.loop-at.invariant.same
