use Rattle.std.proofs.Common.{◌≡◌, ◌-◌, ◌≤◌, ◌∙◌, sym, ap, subst, cond, eqb, length, arith}
use Rattle.replay_queues.specs.Lines.{Lined}
use Rattle.replay_queues.specs.ThreeParts.{Parted, IsParts}
use Rattle.replay_queues.proofs.PartLemmas.{count-cut}
use Rattle.replay_queues.proofs.RoomLemmas.{grown-long}
use Rattle.replay_queues.proofs.RoomAnswers.{grown-parts, grown-parts-are, parts-roomy}
use Rattle.replay_queues.proofs.parts.Parts.grow.Goals as goal

pub invariant_of-self : goal.invariant_of-self
invariant_of-self c =
    let p = c.self.inside in
    subst (λ (l : Lined). IsParts l p.main p.ghosts p.places) (sym c.in_err-grow.ensures.same) (parts-roomy p.line p.main p.ghosts c.grow.new.self.room p.places c.self.invariant)

pub invariant_of-self-2 : goal.invariant_of-self-2
invariant_of-self-2 c =
    let p = c.self.inside in
    let each : length p.places ≡ p.line.objects = c.self.invariant.each_object in
    let within : p.line.objects ≤ c.args.objects = subst (λ (q : Parted). q.objects ≤ c.args.objects) (sym c.self.view_is) c.requires.more in
    subst (IsParts c.grow.new.self c.begin_with-self-inside.result c.begin_with-self-inside-2.result) (sym c.in_ok-places.ensures)
    (grown-parts-are p.line p.main p.ghosts p.places c.self.invariant c.args.objects (c.args.objects - length p.places) c.grow.new.self.room c.in_ok-grow.ensures.past c.begin_with-self-inside.result c.begin_with-self-inside-2.result
    (c.begin_with-self-inside.ensures ∙ ap (λ n. cond (eqb p.main n) c.args.objects p.main) c.none-none.ensures) (c.begin_with-self-inside-2.ensures ∙ ap (λ n. cond (eqb p.ghosts n) c.args.objects p.ghosts) c.none-none.ensures)
    c.grow.new.self c.in_ok-grow.ensures.line (grown-long p.places c.args.objects (omega arith)))

pub returns-clause-grown : goal.returns-clause-grown
returns-clause-grown c =
    let p = c.self.inside in
    grown-parts p.line p.main p.ghosts p.places c.self.invariant c.args.objects (c.args.objects - length p.places) c.grow.new.self.room c.in_ok-grow.ensures.past c.begin_with-self-inside.result c.begin_with-self-inside-2.result
    (c.begin_with-self-inside.ensures ∙ ap (λ n. cond (eqb p.main n) c.args.objects p.main) c.none-none.ensures) (c.begin_with-self-inside-2.ensures ∙ ap (λ n. cond (eqb p.ghosts n) c.args.objects p.ghosts) c.none-none.ensures)
    c.grow.new.self c.in_ok-grow.ensures.line
    ∙ ap (λ (q : Parted). record q { objects = c.args.objects; room = c.grow.new.self.room }) c.self.view_is

pub returns-clause-space : goal.returns-clause-space
returns-clause-space c = omega (arith, count-cut c.grow.new.self c.begin_with-self-inside.result c.begin_with-self-inside-2.result, c.in_ok-grow.ensures.space)
