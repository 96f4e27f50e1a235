use Rattle.std.proofs.Common.{◌≡◌, ◌+◌, ◌*◌, ◌++◌, ◌≤◌, ◌<◌, ◌∙◌, sym, ap, refl, length, arith}
use Rattle.std.proofs.lemmas.Bool.{le-leb}
use Rattle.std.proofs.lemmas.List.{length-append}
use Rattle.policy_model.specs.S3Fifo.{Queues, shrink, queues_used}
use Rattle.policy_model.proofs.Parts.{until-fits}
use Rattle.policy_model.proofs.S3FifoSound.{turns_left, shrink-ends}
use Rattle.replay_queues.specs.SmallAndMain.{queues_at, with_space}
use Rattle.replay_queues.proofs.QueueAnswers.{shrink_step}
use Rattle.replay_queues.proofs.three_queues.ThreeQueues.make_room.Goals as goal

pub loop-left-init : goal.loop-left-init
loop-left-init c =
    let q : Queues = queues_at c.args.self.now in
    record {
      left = c.requires.in_use;
      within = c.requires.within;
      queued = c.requires.queued;
      table = refl;
      few = omega arith;
      room = refl;
      turns = (2 * length (q.small ++ q.main), omega (arith, length-append q.small q.main), refl);
    }

pub overflow_sub-left : goal.overflow_sub-left
overflow_sub-left c = omega (arith, c.loop-left.invariant.left, c.shrink-left.ensures.freed)

pub loop-left-preserved : goal.loop-left-preserved
loop-left-preserved c =
    let q : Queues = queues_at c.loop-left.self in
    let after : Queues = queues_at c.shrink-left.new.self in
    let left_is : c.loop-left.left ≡ queues_used q = c.loop-left.invariant.left in
    let within : c.loop-left.left ≤ c.args.capacity = c.loop-left.invariant.within in
    let freed : queues_used after + c.shrink-left.result ≡ queues_used q = c.shrink-left.ensures.freed in
    record {
      left = omega arith;
      within = omega arith;
      queued = c.shrink-left.ensures.queued;
      table = c.shrink-left.ensures.table ∙ c.loop-left.invariant.table;
      few = omega (arith, c.shrink-left.ensures.few, c.loop-left.invariant.few);
      room = c.shrink-left.ensures.room ∙ c.loop-left.invariant.room;
      turns = shrink_step c.args.capacity c.args.size c.loop-left.invariant.turns.0 q after (with_space c.args.capacity c.args.size (queues_at c.args.self.now)) c.shrink-left.ensures.queues (omega arith) (omega arith)
          c.loop-left.invariant.turns.1 c.loop-left.invariant.turns.2;
    }

pub loop-left-smaller : goal.loop-left-smaller
loop-left-smaller c =
    let q : Queues = queues_at c.loop-left.self in
    let left_is : c.loop-left.left ≡ queues_used q = c.loop-left.invariant.left in
    let less : turns_left c.args.capacity (shrink c.args.capacity q) < turns_left c.args.capacity q = shrink-ends c.args.capacity q (omega arith) in
    omega (arith, ap (turns_left c.args.capacity) c.shrink-left.ensures.queues)

pub returns-clause-queues : goal.returns-clause-queues
returns-clause-queues c =
    let q : Queues = queues_at c.loop-left.self in
    let left_is : c.loop-left.left ≡ queues_used q = c.loop-left.invariant.left in
    sym (until-fits (shrink c.args.capacity) queues_used c.args.capacity c.args.size c.loop-left.invariant.turns.0 q (le-leb (queues_used q + c.args.size) c.args.capacity (omega arith)))
    ∙ c.loop-left.invariant.turns.2
