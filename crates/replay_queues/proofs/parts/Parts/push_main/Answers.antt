use Rattle.std.proofs.Common.{◌∙◌, ap, false, [], ◌∷◌, ◌++◌, arith}
use Rattle.policy_model.specs.States.{member}
use Rattle.replay_queues.specs.Lines.{Lined}
use Rattle.replay_queues.specs.ThreeParts.{Parted, parts_count}
use Rattle.replay_queues.proofs.PartLemmas.{count-cut, ghosts-begin, pushed-main, pushed-main-are}
use Rattle.replay_queues.proofs.PartAnswers.{view-has, view-within}
use Rattle.replay_queues.proofs.parts.Parts.push_main.Goals as goal

pub put-requires-clause-absent : goal.put-requires-clause-absent
put-requires-clause-absent c = let p = c.self.inside in view-has p.line p.main p.ghosts p.places c.self.invariant c.args.self.now c.self.view_is c.args.object false c.requires.absent

pub put-requires-clause-next : goal.put-requires-clause-next
put-requires-clause-next c = let p = c.self.inside in ghosts-begin p.line p.main p.ghosts p.places c.self.invariant

pub put-requires-clause-space : goal.put-requires-clause-space
put-requires-clause-space c =
    let p = c.self.inside in
    omega (arith, count-cut p.line p.main p.ghosts, ap (λ (q : Parted). parts_count q) c.self.view_is, ap (λ (q : Parted). q.room) c.self.view_is, c.requires.space)

pub invariant_of-self : goal.invariant_of-self
invariant_of-self c =
    let p = c.self.inside in
    pushed-main-are p.line p.main p.ghosts p.places c.self.invariant c.args.object c.args.size (view-has p.line p.main p.ghosts p.places c.self.invariant c.args.self.now c.self.view_is c.args.object false c.requires.absent) (view-within p.line p.main p.ghosts p.places c.self.invariant c.args.self.now c.self.view_is c.args.object c.requires.known) c.put.new.self (ap (λ (l : Lined). l.objects) c.put.ensures) (ap (λ (l : Lined). l.room) c.put.ensures) (ap (λ (l : Lined). l.members) c.put.ensures) c.begin_with-self-inside.result c.begin_with-self-inside.ensures

pub returns : goal.returns
returns c =
    let p = c.self.inside in
    pushed-main p.line p.main p.ghosts p.places c.self.invariant c.args.object c.args.size (view-has p.line p.main p.ghosts p.places c.self.invariant c.args.self.now c.self.view_is c.args.object false c.requires.absent) (view-within p.line p.main p.ghosts p.places c.self.invariant c.args.self.now c.self.view_is c.args.object c.requires.known) c.put.new.self (ap (λ (l : Lined). l.objects) c.put.ensures) (ap (λ (l : Lined). l.room) c.put.ensures) (ap (λ (l : Lined). l.members) c.put.ensures) c.begin_with-self-inside.result c.begin_with-self-inside.ensures
    ∙ ap (λ (q : Parted). record q { main = q.main ++ member c.args.object c.args.size ∷ [] }) c.self.view_is
