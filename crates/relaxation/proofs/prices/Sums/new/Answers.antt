use Rattle.std.proofs.Common.{arith}
use Rattle.relaxation.proofs.RunningSums.{running_none, running_more, running_past, sums_made}
use Rattle.relaxation.proofs.prices.Sums.new.Goals as goal

pub loop-step-init : goal.loop-step-init
loop-step-init c = record { running = running_none c.args.prices.now _ c.in_ok-sums.sums.items c.in_ok-sums.ensures.first; room = omega (arith, c.in_ok-sums.ensures.room) }

pub loop-step-preserved : goal.loop-step-preserved
loop-step-preserved c = record {
  running =
      running_more c.args.prices.now c.loop-step.step _ c.loop-step.sum c.in-Some.more c.loop-step.sums.items c.push_reserved.new.self.items c.loop-step-test.true c.loop-step.invariant.running
      c.in-Some.ensures.1 (omega (arith, c.in-Some.ensures.0, c.in-Some.ensures.1)) c.push_reserved.ensures.items;
  room = omega (arith, c.push_reserved.ensures.len, c.push_reserved.ensures.capacity, c.loop-step.invariant.room);
}

pub returns-in-None-clause-fault : goal.returns-in-None-clause-fault
returns-in-None-clause-fault c =
    running_past c.args.prices.now c.args.units c.loop-step.step c.loop-step.sum c.loop-step.sums.items c.requires.units c.loop-step-test.true c.loop-step.invariant.running (omega (arith, c.in-None.ensures))

pub invariant_of-result : goal.invariant_of-result
invariant_of-result c =
    (sums_made c.args.prices.now c.args.units c.loop-step.step c.loop-step.sum c.loop-step.sums.items (omega arith) c.loop-step.invariant.running).0

pub returns-clause-made : goal.returns-clause-made
returns-clause-made c =
    (sums_made c.args.prices.now c.args.units c.loop-step.step c.loop-step.sum c.loop-step.sums.items (omega arith) c.loop-step.invariant.running).1

pub returns-clause-within : goal.returns-clause-within
returns-clause-within c =
    (sums_made c.args.prices.now c.args.units c.loop-step.step c.loop-step.sum c.loop-step.sums.items (omega arith) c.loop-step.invariant.running).2
