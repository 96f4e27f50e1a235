use Rattle.std.proofs.lemmas.Grind.{common_steps}
use Rattle.std.proofs.Common.{◌∙◌, ap, length, arith}
use Rattle.bound_io.proofs.KnownLemmas.{keeps_more, keeps_then, loses_then}
use Rattle.bound_io.proofs.buffer.Buffer.hold.Goals as goal

pub loop-self-init : goal.loop-self-init
loop-self-init g c = grind (arith, common_steps)

pub loop-self-preserved : goal.loop-self-preserved
loop-self-preserved g c =
    let so_far = c.loop-self.invariant in
    let given = c.in_ok-fill.ensures in
    let more = given.bytes.0 in
    record {
      kept = rw (more.1) (keeps_then _ _ _ so_far.kept (keeps_more _ _ c.loop-self.self more.0 more.3));
      source = loses_then _ _ _ more.0 so_far.source more.3;
      none_failed = given.none_failed ∙ so_far.none_failed;
      untouched = λ held. absurd (omega (arith, held, ap length (so_far.untouched held).0, c.loop-self-test.true, c.len.ensures.len));
    }
