use Rattle.std.proofs.Common.{◌<◌, refl, length, arith}
use Rattle.window_arcs.proofs.OrderLemmas.{noted_all, noted_more}
use Rattle.window_arcs.proofs.order.ranks_of.Goals as goal

pub index_mut-requires : goal.index_mut-requires
index_mut-requires c =
    let numbers = c.args.numbers.now in
    let low : c.loop-rank.rank < length numbers = omega (arith, c.loop-rank-test.true, c.loop-rank.auto.rank-end) in
    omega (arith, c.requires.within c.loop-rank.rank 0 low, c.loop-rank.invariant.each, c.loop-rank.ranks.ok)

pub loop-rank-preserved : goal.loop-rank-preserved
loop-rank-preserved c = noted_more c.args.arcs c.args.numbers.now c.loop-rank.ranks.items c.loop-rank.rank _ c.loop-rank.invariant c.requires.within (omega (arith, c.loop-rank-test.true, c.loop-rank.auto.rank-end)) refl

pub returns : goal.returns
returns c = noted_all c.args.arcs c.args.numbers.now c.loop-rank.ranks.items c.loop-rank.rank c.loop-rank.invariant (omega (arith, c.loop-rank-test.false, c.loop-rank.auto.rank-end))
