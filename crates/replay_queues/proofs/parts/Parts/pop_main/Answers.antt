use Rattle.std.proofs.Common.{◌≡◌, ℕ, ◌∙◌, sym, refl, false, List, [], ◌∷◌, ◌++◌}
use Rattle.policy_model.specs.States.{Member}
use Rattle.replay_queues.specs.Lines.{first_of}
use Rattle.replay_queues.specs.ThreeParts.{no_members}
use Rattle.replay_queues.proofs.PartAnswers.{view-once, view-main, popped-absent, popped-main}
use Rattle.replay_queues.proofs.parts.Parts.pop_main.Goals as goal

-- the first of them
first : (ms rest : List Member) → no_members ms ≡ false → (n object : ℕ) → object ≡ first_of n (ms ++ rest) → (x : Member) × (more : List Member) × (ms ≡ x ∷ more) × (x.object ≡ object)
first [] rest some n object is = cc
first (x ∷ more) rest some n object is = (x, more, refl, sym is)

pub returns-clause-first : goal.returns-clause-first
returns-clause-first c =
    let p = c.self.inside in
    let x = first c.args.self.now.main c.args.self.now.ghosts (sym c.no_main.ensures ∙ c.if-no_main.false) c.args.self.now.objects p.main (view-main p.line p.main p.ghosts p.places c.self.invariant c.args.self.now c.self.view_is) in
    (popped-main c.args.self.now (view-once p.line p.main p.ghosts p.places c.self.invariant c.args.self.now c.self.view_is) p.main c.remove.result c.remove.new.self c.remove.ensures.rest c.remove.ensures.size x.0 x.1 x.3 x.2).0

pub returns-clause-rest : goal.returns-clause-rest
returns-clause-rest c =
    let p = c.self.inside in
    let x = first c.args.self.now.main c.args.self.now.ghosts (sym c.no_main.ensures ∙ c.if-no_main.false) c.args.self.now.objects p.main (view-main p.line p.main p.ghosts p.places c.self.invariant c.args.self.now c.self.view_is) in
    (popped-main c.args.self.now (view-once p.line p.main p.ghosts p.places c.self.invariant c.args.self.now c.self.view_is) p.main c.remove.result c.remove.new.self c.remove.ensures.rest c.remove.ensures.size x.0 x.1 x.3 x.2).1

pub returns-clause-absent : goal.returns-clause-absent
returns-clause-absent c =
    let p = c.self.inside in
    popped-absent c.args.self.now (view-once p.line p.main p.ghosts p.places c.self.invariant c.args.self.now c.self.view_is) p.main c.remove.result c.remove.new.self c.remove.ensures.rest c.remove.ensures.size

pub returns-clause-known : goal.returns-clause-known
returns-clause-known c = c.remove.ensures.known
