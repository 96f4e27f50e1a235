use Rattle.std.proofs.Common.{◌∙◌, arith}
use Rattle.std.proofs.lemmas.List.{take_all, take_rest}
use Rattle.bound_io.proofs.KnownLemmas.{appends_more}
use Rattle.bound_io.proofs.writing.write_all.Goals as goal

pub loop-at-preserved : goal.loop-at-preserved
loop-at-preserved g c = record {
  within = omega (arith, c.in_ok-at.ensures.bound);
  so_far = appends_more _ _ _ _ _ _ c.loop-at.invariant.so_far (rw take_rest at c.in_ok-at.ensures.bytes);
  none_failed = c.in_ok-at.ensures.none_failed ∙ c.loop-at.invariant.none_failed;
}

pub returns-clause-all : goal.returns-clause-all
returns-clause-all g c = rw (take_all c.loop-at.at c.args.bytes.now c.loop-at-test.false) at c.loop-at.invariant.so_far
