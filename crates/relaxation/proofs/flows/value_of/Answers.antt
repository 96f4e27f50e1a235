use Rattle.std.proofs.Common.{arith}
use Rattle.relaxation.proofs.Values.{within_at, worth_of, value_all}
use Rattle.relaxation.proofs.flows.value_of.Goals as goal

pub bounds-flows-at : goal.bounds-flows-at
bounds-flows-at c = omega (arith, (within_at c.args.unit c.args.intervals.now c.args.flows.now c.requires.within).0)

pub overflow_mul-value : goal.overflow_mul-value
overflow_mul-value c =
    omega (arith, (worth_of c.args.unit c.args.denominator c.args.intervals.now c.args.flows.now c.loop-at.at c.loop-at.value c.requires.within c.requires.gains c.requires.denominator c.loop-at-test.true).small)

pub overflow_add-value : goal.overflow_add-value
overflow_add-value c =
    omega (
      arith,
      c.loop-at.invariant.small,
      (worth_of c.args.unit c.args.denominator c.args.intervals.now c.args.flows.now c.loop-at.at c.loop-at.value c.requires.within c.requires.gains c.requires.denominator c.loop-at-test.true).small,
    )

pub loop-at-preserved : goal.loop-at-preserved
loop-at-preserved c =
    let worth = worth_of c.args.unit c.args.denominator c.args.intervals.now c.args.flows.now c.loop-at.at c.loop-at.value c.requires.within c.requires.gains c.requires.denominator c.loop-at-test.true in
    record { value = worth.more c.loop-at.invariant.value; small = omega (arith, c.loop-at.invariant.small, worth.small) }

pub returns-clause-value : goal.returns-clause-value
returns-clause-value c = value_all c.args.unit c.args.denominator c.args.intervals.now c.args.flows.now c.loop-at.at c.loop-at.value c.loop-at-test.false c.loop-at.invariant.value
