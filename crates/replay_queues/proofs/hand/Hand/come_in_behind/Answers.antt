use Rattle.std.proofs.Common.{◌∙◌, sym, refl}
use Rattle.replay_queues.specs.declared.hand.Hand.{Hand}
use Rattle.replay_queues.proofs.HandLemmas.{held-line}
use Rattle.replay_queues.proofs.ClockLemmas.{behind-hand, behind-last, behind-ahead}
use Rattle.replay_queues.proofs.hand.Hand.come_in_behind.Goals as goal

pub put-requires-clause-absent : goal.put-requires-clause-absent
put-requires-clause-absent c = sym (held-line c.args.self.now c.requires.held c.args.object) ∙ c.requires.absent

pub put-requires-clause-next : goal.put-requires-clause-next
put-requires-clause-next c = c.requires.held.next_is

-- the hand with the object behind it
abbrev came : goal.After-put → Hand
came c = record { line = c.put.new.self; next = c.args.self.now.next; table = c.set.new.self }

pub returns-clause-behind : goal.returns-clause-behind
returns-clause-behind c = behind-last c.args.self.now c.requires.held c.args.object c.args.size c.requires.known c.requires.absent (came c) c.set.ensures c.put.ensures refl

pub returns-clause-ahead : goal.returns-clause-ahead
returns-clause-ahead c = behind-ahead c.args.self.now c.requires.held c.args.object c.args.size c.requires.known c.requires.absent (came c) c.set.ensures c.put.ensures refl

pub returns-clause-held : goal.returns-clause-held
returns-clause-held c = behind-hand c.args.self.now c.requires.held c.args.object c.args.size c.requires.known c.requires.absent (came c) c.set.ensures c.put.ensures refl
