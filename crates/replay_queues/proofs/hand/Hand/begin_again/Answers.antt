use Rattle.std.proofs.Common.{◌∙◌, refl, arith}
use Rattle.replay_queues.specs.declared.hand.Hand.{Hand}
use Rattle.replay_queues.proofs.HandLemmas.{cut-size, again-cut, again-hand}
use Rattle.replay_queues.proofs.hand.Hand.begin_again.Goals as goal

-- the hand at the first of all
abbrev again : goal.After-self-1 → Hand
again c = record { line = c.args.self.now.line; next = c.first-self.result; table = c.args.self.now.table }

pub returns-then-self-none-clause-cut : goal.returns-then-self-none-clause-cut
returns-then-self-none-clause-cut c = again-cut c.args.self.now c.requires.held (again c) refl refl (c.if-self-none.true ∙ c.none.ensures) c.first-self.ensures

pub returns-then-self-none-clause-in_use : goal.returns-then-self-none-clause-in_use
returns-then-self-none-clause-in_use c = omega (arith, cut-size c.args.self.now, cut-size (again c))

pub returns-then-self-none-clause-held : goal.returns-then-self-none-clause-held
returns-then-self-none-clause-held c = again-hand c.args.self.now c.requires.held (again c) refl refl (c.if-self-none.true ∙ c.none.ensures) c.first-self.ensures
