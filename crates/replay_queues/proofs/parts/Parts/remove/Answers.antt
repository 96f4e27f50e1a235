use Rattle.std.proofs.Common.{◌≡◌, ◌<◌, ◌∙◌, sym, ap, subst, true, length, arith}
use Rattle.replay_queues.specs.Lines.{Lined}
use Rattle.replay_queues.specs.ThreeParts.{Parted, parts_count, parts_without, parts_size, IsParts}
use Rattle.replay_queues.proofs.PartLemmas.{count-cut, size-parts, left-parts, left-are}
use Rattle.replay_queues.proofs.PartAnswers.{view-has}
use Rattle.replay_queues.proofs.parts.Parts.remove.Goals as goal

pub begin_without-self-inside-requires : goal.begin_without-self-inside-requires
begin_without-self-inside-requires c = record { there = (let p = c.self.inside in view-has p.line p.main p.ghosts p.places c.self.invariant c.args.self.now c.self.view_is c.args.object true c.requires.there) }

pub begin_without-self-inside-requires-2 : goal.begin_without-self-inside-requires-2
begin_without-self-inside-requires-2 c = record { there = (let p = c.self.inside in view-has p.line p.main p.ghosts p.places c.self.invariant c.args.self.now c.self.view_is c.args.object true c.requires.there) }

pub remove-size-requires : goal.remove-size-requires
remove-size-requires c = record { there = (let p = c.self.inside in view-has p.line p.main p.ghosts p.places c.self.invariant c.args.self.now c.self.view_is c.args.object true c.requires.there) }

pub invariant_of-self : goal.invariant_of-self
invariant_of-self c =
    let p = c.self.inside in
    let each : length p.places ≡ p.line.objects = c.self.invariant.each_object in
    let low : c.args.object < p.line.objects = c.remove-size.ensures.known in
    subst (IsParts c.remove-size.new.self c.begin_without-self-inside.result c.begin_without-self-inside-2.result) (sym c.set.ensures)
    (left-are p.line p.main p.ghosts p.places c.self.invariant c.args.object c.remove-size.new.self (ap (λ (l : Lined). l.members) c.remove-size.ensures.rest) (ap (λ (l : Lined). l.objects) c.remove-size.ensures.rest) (ap (λ (l : Lined). l.room) c.remove-size.ensures.rest) c.begin_without-self-inside.result c.begin_without-self-inside-2.result c.begin_without-self-inside.ensures c.begin_without-self-inside-2.ensures (omega arith))

pub returns-clause-rest : goal.returns-clause-rest
returns-clause-rest c =
    let p = c.self.inside in
    left-parts p.line p.main p.ghosts p.places c.self.invariant c.args.object c.remove-size.new.self (ap (λ (l : Lined). l.members) c.remove-size.ensures.rest) (ap (λ (l : Lined). l.objects) c.remove-size.ensures.rest) (ap (λ (l : Lined). l.room) c.remove-size.ensures.rest) c.begin_without-self-inside.result c.begin_without-self-inside-2.result c.begin_without-self-inside.ensures c.begin_without-self-inside-2.ensures
    ∙ ap (parts_without c.args.object) c.self.view_is

pub returns-clause-size : goal.returns-clause-size
returns-clause-size c =
    let p = c.self.inside in
    omega (
      arith,
      size-parts p.line p.main p.ghosts p.places c.self.invariant,
      ap parts_size c.self.view_is,
      size-parts c.remove-size.new.self c.begin_without-self-inside.result c.begin_without-self-inside-2.result c.set.new.self (invariant_of-self c),
      c.remove-size.ensures.size,
    )

pub returns-clause-count : goal.returns-clause-count
returns-clause-count c =
    let p = c.self.inside in
    omega (
      arith,
      count-cut c.remove-size.new.self c.begin_without-self-inside.result c.begin_without-self-inside-2.result,
      count-cut p.line p.main p.ghosts,
      ap (λ (q : Parted). parts_count q) c.self.view_is,
      c.remove-size.ensures.count,
    )

pub returns-clause-space : goal.returns-clause-space
returns-clause-space c = omega (arith, count-cut c.remove-size.new.self c.begin_without-self-inside.result c.begin_without-self-inside-2.result, c.remove-size.ensures.space)
