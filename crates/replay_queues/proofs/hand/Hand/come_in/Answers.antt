use Rattle.std.proofs.Common.{◌≡◌, ◌∙◌, sym, ap, [], ◌∷◌, ◌++◌}
use Rattle.policy_model.specs.States.{member}
use Rattle.replay_queues.specs.Lines.{Lined}
use Rattle.replay_queues.specs.declared.hand.Hand.{Hand}
use Rattle.replay_queues.proofs.HandLemmas.{held-line, none-held, in-cut, in-hand}
use Rattle.replay_queues.proofs.PutLemmas.{none-begins, put-last}
use Rattle.replay_queues.proofs.hand.Hand.come_in.Goals as goal

pub put-requires-clause-absent : goal.put-requires-clause-absent
put-requires-clause-absent c = sym (held-line c.args.self.now c.requires.held c.args.object) ∙ c.requires.absent

pub put-requires-clause-next : goal.put-requires-clause-next
put-requires-clause-next c = none-begins c.args.self.now.line c.none-none.result c.none-none.ensures (none-held c.args.self.now c.requires.held)

-- the hand with the object
abbrev came : goal.After-put → Hand
came c = record { line = c.put.new.self; next = c.next_with-self.result; table = c.set.new.self }

-- which stands last
last : (c : goal.After-put) → c.put.new.self.members ≡ c.args.self.now.line.members ++ member c.args.object c.args.size ∷ []
last c = ap (λ (l : Lined). l.members) c.put.ensures ∙ put-last c.args.self.now.line c.none-none.result c.none-none.ensures (none-held c.args.self.now c.requires.held) (member c.args.object c.args.size)

pub returns-clause-cut : goal.returns-clause-cut
returns-clause-cut c =
    in-cut c.args.self.now c.requires.held c.args.object c.args.size c.requires.known c.requires.absent (came c) c.set.ensures (last c) (ap (λ (l : Lined). l.objects) c.put.ensures) c.next_with-self.ensures

pub returns-clause-held : goal.returns-clause-held
returns-clause-held c =
    in-hand c.args.self.now c.requires.held c.args.object c.args.size c.requires.known c.requires.absent (came c) c.set.ensures (last c) (ap (λ (l : Lined). l.objects) c.put.ensures) c.next_with-self.ensures
