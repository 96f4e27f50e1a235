use Rattle.std.proofs.Common.{◌∙◌, sym, ap, drop}
use Rattle.std.proofs.lemmas.Bool.{ne_eqb}
use Rattle.replay_queues.specs.Lines.{first_of, from_object}
use Rattle.replay_queues.proofs.HandLemmas.{held-line, goes-on-here, goes-on-there}
use Rattle.replay_queues.proofs.hand.Hand.next_without.Goals as goal

pub after-requires : goal.after-requires
after-requires c = record { there = sym (held-line c.args.self.now c.requires.held c.args.object) ∙ c.requires.there }

pub returns-then-self-object : goal.returns-then-self-object
returns-then-self-object c =
    let h = c.args.self.now in
    c.after.ensures ∙ ap (λ k. first_of h.line.objects (drop 1 (from_object k h.line.members))) (sym c.if-self-object.true)
    ∙ goes-on-here h c.requires.held c.args.object c.if-self-object.true c.requires.there

pub returns-else-self-object : goal.returns-else-self-object
returns-else-self-object c = goes-on-there c.args.self.now c.requires.held c.args.object (ne_eqb c.args.self.now.next c.args.object c.if-self-object.false)
