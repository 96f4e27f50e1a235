use Rattle.std.proofs.Common.{◌≤◌, ◌^◌, ap, arith}
use Rattle.std.proofs.lemmas.List.Sums.{sum_by_push}
use Rattle.policy_model.specs.States.{Entry, used}
use Rattle.policy_model.specs.WTinyLfu.{main_used}
use Rattle.replay_tinylfu.specs.Queues.{Queues, plain_entry}
use Rattle.replay_tinylfu.proofs.MoveLemmas.{taken-bytes}
use Rattle.replay_tinylfu.proofs.moves.protect.Goals as goal

pub push_protected-requires-clause-fits : goal.push_protected-requires-clause-fits
push_protected-requires-clause-fits c =
    let old : Queues = c.args.ring.now in
    let range : main_used old.segments.main ≤ 2 ^ 56 = c.requires.range in
    omega (
      arith,
      taken-bytes c.args.object c.take_probation-size.result old.segments.main.probation c.take_probation-size.ensures.size,
      ap (λ (q : Queues). used q.segments.main.protected) c.take_probation-size.ensures.rest,
    )

pub demote-requires : goal.demote-requires
demote-requires c =
    let old : Queues = c.args.ring.now in
    let mid : Queues = c.take_probation-size.new.self in
    let range : main_used old.segments.main ≤ 2 ^ 56 = c.requires.range in
    record {
      range = omega (
        arith,
        taken-bytes c.args.object c.take_probation-size.result old.segments.main.probation c.take_probation-size.ensures.size,
        ap (λ (q : Queues). main_used q.segments.main) c.push_protected.ensures,
        sum_by_push (λ (e : Entry). e.size) mid.segments.main.protected (plain_entry c.args.object c.take_probation-size.result),
        ap (λ (q : Queues). used q.segments.main.protected) c.take_probation-size.ensures.rest,
        ap (λ (q : Queues). used q.segments.main.probation) c.take_probation-size.ensures.rest,
      );
    }
