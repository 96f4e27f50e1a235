use Rattle.std.proofs.Common.{arith}
use Rattle.cache_model.proofs.Scores.{allowed-from_loads}
use Rattle.cache_rules.proofs.Earning.{gains_more, gains_all, earned_of-le}
use Rattle.cache_model.specs.Claim.{marked}
use Rattle.cache_rules.proofs.scoring.score_of_fitting.Goals as goal

pub overflow_add-gains : goal.overflow_add-gains
overflow_add-gains c =
    omega (arith, c.loop-t.invariant.few, c.earned.ensures, earned_of-le (marked c.args.terms c.args.trace.now.fills) c.loop-t.t c.requested-object.result c.is_hit-hit.result c.requested-object.ensures.size)

pub loop-t-preserved : goal.loop-t-preserved
loop-t-preserved c = record {
  gains = gains_more (marked c.args.terms c.args.trace.now.fills) c.args.trace.now.objects c.args.keeps.now c.loop-t.t c.loop-t.gains _ c.is_hit-hit.result c.requested-object.result
      c.loop-t.invariant.gains c.requested-object.ensures.object c.is_hit-hit.ensures (omega (arith, c.earned.ensures));
  few = omega (arith, c.earned.ensures, earned_of-le (marked c.args.terms c.args.trace.now.fills) c.loop-t.t c.requested-object.result c.is_hit-hit.result c.requested-object.ensures.size);
}

pub returns-clause-score : goal.returns-clause-score
returns-clause-score c = gains_all (marked c.args.terms c.args.trace.now.fills) c.args.trace.now.objects c.args.keeps.now c.loop-t.t c.loop-t.gains c.loop-t.invariant.gains (omega arith)

pub returns-clause-allowed : goal.returns-clause-allowed
returns-clause-allowed c = allowed-from_loads c.args.trace.now.objects c.args.terms.capacity c.args.keeps.now c.requires.fits
