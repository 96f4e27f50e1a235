use Rattle.std.proofs.Common.{◌-◌, arith}
use Rattle.window_arcs.proofs.EventLemmas.{begun_more}
use Rattle.window_arcs.proofs.events.Events.new.Goals as goal

pub loop-number-preserved : goal.loop-number-preserved
loop-number-preserved c =
    begun_more c.args.keys.items c.args.lists c.loop-number.first.items c.loop-number.next.items c.loop-number.number (c.loop-number.number - 1) c.index.result.now c.index-in-loop-number.result.now c.loop-number.invariant (omega (arith, c.loop-number-test.true))
    (omega (arith, c.loop-number.auto.number, c.loop-number-test.true)) c.requires.within c.index.ensures c.index-in-loop-number.ensures
