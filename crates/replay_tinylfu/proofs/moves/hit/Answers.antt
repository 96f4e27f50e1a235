use Rattle.std.proofs.Common.{◌≤◌, ◌^◌, ap, arith}
use Rattle.policy_model.specs.States.{used}
use Rattle.policy_model.specs.WTinyLfu.{main_used}
use Rattle.replay_tinylfu.specs.Queues.{Queues}
use Rattle.replay_tinylfu.proofs.MoveLemmas.{taken-bytes}
use Rattle.replay_tinylfu.proofs.moves.hit.Goals as goal

pub push_window-requires-clause-fits : goal.push_window-requires-clause-fits
push_window-requires-clause-fits c =
    let old : Queues = c.args.ring.now in
    let range : (used old.segments.window ≤ 2 ^ 56) × (main_used old.segments.main ≤ 2 ^ 56) = c.requires.range in
    omega (
      arith,
      range.0,
      taken-bytes c.args.object c.take_window-size.result old.segments.window c.take_window-size.ensures.size,
      ap (λ (q : Queues). used q.segments.window) c.take_window-size.ensures.rest,
    )

pub push_protected-requires-clause-fits : goal.push_protected-requires-clause-fits
push_protected-requires-clause-fits c =
    let old : Queues = c.args.ring.now in
    let range : (used old.segments.window ≤ 2 ^ 56) × (main_used old.segments.main ≤ 2 ^ 56) = c.requires.range in
    omega (
      arith,
      range.1,
      taken-bytes c.args.object c.take_protected-size.result old.segments.main.protected c.take_protected-size.ensures.size,
      ap (λ (q : Queues). used q.segments.main.protected) c.take_protected-size.ensures.rest,
    )
