use Rattle.std.proofs.Common.{◌∙◌, sym, ap, subst, false, [], ◌∷◌, ◌++◌, arith}
use Rattle.policy_model.specs.States.{member}
use Rattle.replay_queues.specs.Lines.{Lined}
use Rattle.replay_queues.specs.ThreeParts.{Parted, IsParts, parts_count}
use Rattle.replay_queues.proofs.PartLemmas.{count-cut, pushed-small, pushed-small-are}
use Rattle.replay_queues.proofs.PartAnswers.{view-has, view-within}
use Rattle.replay_queues.proofs.parts.Parts.push_small.Goals as goal

pub put-requires-clause-absent : goal.put-requires-clause-absent
put-requires-clause-absent c = let p = c.self.inside in view-has p.line p.main p.ghosts p.places c.self.invariant c.args.self.now c.self.view_is c.args.object false c.requires.absent

pub put-requires-clause-space : goal.put-requires-clause-space
put-requires-clause-space c =
    let p = c.self.inside in
    omega (arith, count-cut p.line p.main p.ghosts, ap (λ (q : Parted). parts_count q) c.self.view_is, ap (λ (q : Parted). q.room) c.self.view_is, c.requires.space)

pub invariant_of-self : goal.invariant_of-self
invariant_of-self c =
    let p = c.self.inside in
    subst (IsParts c.put.new.self p.main p.ghosts) (sym c.set.ensures)
    (pushed-small-are p.line p.main p.ghosts p.places c.self.invariant c.args.object c.args.size (view-has p.line p.main p.ghosts p.places c.self.invariant c.args.self.now c.self.view_is c.args.object false c.requires.absent) (view-within p.line p.main p.ghosts p.places c.self.invariant c.args.self.now c.self.view_is c.args.object c.requires.known) c.put.new.self (ap (λ (l : Lined). l.objects) c.put.ensures) (ap (λ (l : Lined). l.room) c.put.ensures) (ap (λ (l : Lined). l.members) c.put.ensures))

pub returns : goal.returns
returns c =
    let p = c.self.inside in
    pushed-small p.line p.main p.ghosts p.places c.self.invariant c.args.object c.args.size (view-has p.line p.main p.ghosts p.places c.self.invariant c.args.self.now c.self.view_is c.args.object false c.requires.absent) (view-within p.line p.main p.ghosts p.places c.self.invariant c.args.self.now c.self.view_is c.args.object c.requires.known) c.put.new.self (ap (λ (l : Lined). l.objects) c.put.ensures) (ap (λ (l : Lined). l.room) c.put.ensures) (ap (λ (l : Lined). l.members) c.put.ensures)
    ∙ ap (λ (q : Parted). record q { small = q.small ++ member c.args.object c.args.size ∷ [] }) c.self.view_is
