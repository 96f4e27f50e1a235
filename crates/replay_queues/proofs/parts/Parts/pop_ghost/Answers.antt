use Rattle.std.proofs.Common.{◌≡◌, ℕ, ◌<◌, ◌∙◌, sym, refl, ap, false, List, [], ◌∷◌, ◌++◌, length, arith}
use Rattle.std.proofs.lemmas.List.{append-nil}
use Rattle.policy_model.specs.States.{Member}
use Rattle.replay_queues.specs.Lines.{first_of}
use Rattle.replay_queues.specs.ThreeParts.{no_members}
use Rattle.replay_queues.proofs.PartAnswers.{view-once, view-ghosts, popped-absent, popped-ghost}
use Rattle.replay_queues.proofs.parts.Parts.pop_ghost.Goals as goal

-- there is one
some : (ms : List Member) → 0 < length ms → no_members ms ≡ false
some [] many = absurd (omega arith)
some (x ∷ more) many = refl

-- the first of them
first : (ms rest : List Member) → no_members ms ≡ false → (n object : ℕ) → object ≡ first_of n (ms ++ rest) → (x : Member) × (more : List Member) × (ms ≡ x ∷ more) × (x.object ≡ object)
first [] rest some n object is = cc
first (x ∷ more) rest some n object is = (x, more, refl, sym is)

pub returns-clause-first : goal.returns-clause-first
returns-clause-first c =
    let p = c.self.inside in
    let x = first c.args.self.now.ghosts [] (some c.args.self.now.ghosts c.requires.some) c.args.self.now.objects p.ghosts (view-ghosts p.line p.main p.ghosts p.places c.self.invariant c.args.self.now c.self.view_is ∙ ap (first_of c.args.self.now.objects) (sym (append-nil c.args.self.now.ghosts))) in
    (popped-ghost c.args.self.now (view-once p.line p.main p.ghosts p.places c.self.invariant c.args.self.now c.self.view_is) p.ghosts c.remove-size.result c.remove-size.new.self c.remove-size.ensures.rest c.remove-size.ensures.size x.0 x.1 x.3 x.2).0

pub returns-clause-rest : goal.returns-clause-rest
returns-clause-rest c =
    let p = c.self.inside in
    let x = first c.args.self.now.ghosts [] (some c.args.self.now.ghosts c.requires.some) c.args.self.now.objects p.ghosts (view-ghosts p.line p.main p.ghosts p.places c.self.invariant c.args.self.now c.self.view_is ∙ ap (first_of c.args.self.now.objects) (sym (append-nil c.args.self.now.ghosts))) in
    (popped-ghost c.args.self.now (view-once p.line p.main p.ghosts p.places c.self.invariant c.args.self.now c.self.view_is) p.ghosts c.remove-size.result c.remove-size.new.self c.remove-size.ensures.rest c.remove-size.ensures.size x.0 x.1 x.3 x.2).1

pub returns-clause-absent : goal.returns-clause-absent
returns-clause-absent c =
    let p = c.self.inside in
    popped-absent c.args.self.now (view-once p.line p.main p.ghosts p.places c.self.invariant c.args.self.now c.self.view_is) p.ghosts c.remove-size.result c.remove-size.new.self c.remove-size.ensures.rest c.remove-size.ensures.size

pub returns-clause-known : goal.returns-clause-known
returns-clause-known c = c.remove-size.ensures.known
