use Rattle.std.proofs.Common.{◌∙◌, ap, false, cond, eqb, [], ◌∷◌, ◌++◌, arith}
use Rattle.policy_model.specs.States.{member}
use Rattle.replay_queues.specs.Lines.{Lined}
use Rattle.replay_queues.specs.ThreeParts.{Parted, parts_count}
use Rattle.replay_queues.proofs.PutLemmas.{none-begins, put-last}
use Rattle.replay_queues.proofs.PartLemmas.{count-cut, pushed-ghost, pushed-ghost-are}
use Rattle.replay_queues.proofs.PartAnswers.{view-has, view-within}
use Rattle.replay_queues.proofs.parts.Parts.push_ghost.Goals as goal

pub put-requires-clause-absent : goal.put-requires-clause-absent
put-requires-clause-absent c = let p = c.self.inside in view-has p.line p.main p.ghosts p.places c.self.invariant c.args.self.now c.self.view_is c.args.object false c.requires.absent

pub put-requires-clause-next : goal.put-requires-clause-next
put-requires-clause-next c = let p = c.self.inside in none-begins p.line c.none-none.result c.none-none.ensures c.self.invariant.none_apart

pub put-requires-clause-space : goal.put-requires-clause-space
put-requires-clause-space c =
    let p = c.self.inside in
    omega (arith, count-cut p.line p.main p.ghosts, ap (λ (q : Parted). parts_count q) c.self.view_is, ap (λ (q : Parted). q.room) c.self.view_is, c.requires.space)

pub invariant_of-self : goal.invariant_of-self
invariant_of-self c =
    let p = c.self.inside in
    pushed-ghost-are p.line p.main p.ghosts p.places c.self.invariant c.args.object c.args.size (view-has p.line p.main p.ghosts p.places c.self.invariant c.args.self.now c.self.view_is c.args.object false c.requires.absent) (view-within p.line p.main p.ghosts p.places c.self.invariant c.args.self.now c.self.view_is c.args.object c.requires.known) c.put.new.self (ap (λ (l : Lined). l.objects) c.put.ensures) (ap (λ (l : Lined). l.room) c.put.ensures)
    (ap (λ (l : Lined). l.members) c.put.ensures ∙ put-last p.line c.none-none.result c.none-none.ensures c.self.invariant.none_apart (member c.args.object c.args.size))
    c.begin_with-self-inside.result c.begin_with-self-inside-2.result
    (c.begin_with-self-inside.ensures ∙ ap (λ n. cond (eqb p.main n) c.args.object p.main) c.none-none.ensures) (c.begin_with-self-inside-2.ensures ∙ ap (λ n. cond (eqb p.ghosts n) c.args.object p.ghosts) c.none-none.ensures)

pub returns : goal.returns
returns c =
    let p = c.self.inside in
    pushed-ghost p.line p.main p.ghosts p.places c.self.invariant c.args.object c.args.size (view-has p.line p.main p.ghosts p.places c.self.invariant c.args.self.now c.self.view_is c.args.object false c.requires.absent) (view-within p.line p.main p.ghosts p.places c.self.invariant c.args.self.now c.self.view_is c.args.object c.requires.known) c.put.new.self (ap (λ (l : Lined). l.objects) c.put.ensures) (ap (λ (l : Lined). l.room) c.put.ensures)
    (ap (λ (l : Lined). l.members) c.put.ensures ∙ put-last p.line c.none-none.result c.none-none.ensures c.self.invariant.none_apart (member c.args.object c.args.size))
    c.begin_with-self-inside.result c.begin_with-self-inside-2.result
    (c.begin_with-self-inside.ensures ∙ ap (λ n. cond (eqb p.main n) c.args.object p.main) c.none-none.ensures) (c.begin_with-self-inside-2.ensures ∙ ap (λ n. cond (eqb p.ghosts n) c.args.object p.ghosts) c.none-none.ensures)
    ∙ ap (λ (q : Parted). record q { ghosts = q.ghosts ++ member c.args.object c.args.size ∷ [] }) c.self.view_is
