use Rattle.std.proofs.Common.{◌∙◌, sym, ap, arith}
use Rattle.replay_queues.specs.Lines.{Lined}
use Rattle.replay_queues.specs.declared.hand.Hand.{Hand}
use Rattle.replay_queues.proofs.HandLemmas.{held-line, cut-size, out-behind, out-ahead, out-hand}
use Rattle.replay_queues.proofs.hand.Hand.take_out.Goals as goal

pub remove-requires : goal.remove-requires
remove-requires c = record { there = sym (held-line c.args.self.now c.requires.held c.args.object) ∙ c.requires.there }

-- the hand without the object
abbrev left : goal.After-remove → Hand
left c = record { line = c.remove.new.self; next = c.next_without-self.result; table = c.set.new.self }

pub returns-clause-behind : goal.returns-clause-behind
returns-clause-behind c =
    out-behind c.args.self.now c.requires.held c.args.object c.requires.there (left c) c.set.ensures (ap (λ (l : Lined). l.members) c.remove.ensures.rest) (ap (λ (l : Lined). l.objects) c.remove.ensures.rest) c.next_without-self.ensures

pub returns-clause-ahead : goal.returns-clause-ahead
returns-clause-ahead c =
    out-ahead c.args.self.now c.requires.held c.args.object c.requires.there (left c) c.set.ensures (ap (λ (l : Lined). l.members) c.remove.ensures.rest) (ap (λ (l : Lined). l.objects) c.remove.ensures.rest) c.next_without-self.ensures

pub returns-clause-freed : goal.returns-clause-freed
returns-clause-freed c = omega (arith, cut-size c.args.self.now, cut-size (left c), c.remove.ensures.size)

pub returns-clause-held : goal.returns-clause-held
returns-clause-held c =
    out-hand c.args.self.now c.requires.held c.args.object c.requires.there (left c) c.set.ensures (ap (λ (l : Lined). l.members) c.remove.ensures.rest) (ap (λ (l : Lined). l.objects) c.remove.ensures.rest) c.next_without-self.ensures
