use Rattle.std.proofs.Common.{arith}
use Rattle.replay_queues.proofs.PartLemmas.{count-cut}
use Rattle.replay_queues.proofs.parts.Parts.reserve.Goals as goal

pub returns-clause-space : goal.returns-clause-space
returns-clause-space c = omega (arith, count-cut c.reserve.new.self c.self.inside.main c.self.inside.ghosts, c.in_ok-reserve.ensures.space)
