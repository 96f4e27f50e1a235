use Rattle.std.proofs.Common.{arith}
use Rattle.replay_queues.proofs.GhostAnswers.{count-few, members-length}
use Rattle.replay_queues.proofs.line.Line.reserve.Goals as goal

pub overflow_add-nodes : goal.overflow_add-nodes
overflow_add-nodes c =
    let p = c.self.inside in
    omega (arith, count-few p.nodes.list p.objects p.count c.self.invariant.ring, c.self.invariant.few)

pub returns-clause-space : goal.returns-clause-space
returns-clause-space c =
    let p = c.self.inside in
    omega (arith, members-length c.reserve.new.self.list p.objects p.count, c.in_ok-reserve.ensures.space)
