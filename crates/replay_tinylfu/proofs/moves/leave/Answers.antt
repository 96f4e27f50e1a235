use Rattle.std.proofs.Common.{◌∙◌, sym}
use Rattle.std.proofs.lemmas.Bool.{ne_eqb}
use Rattle.replay_tinylfu.proofs.MoveLemmas.{window-leaves, probation-leaves, protected-leaves, none-leaves}
use Rattle.replay_tinylfu.proofs.moves.leave.Goals as goal

pub returns-then-place-eq-WINDOW : goal.returns-then-place-eq-WINDOW
returns-then-place-eq-WINDOW c = window-leaves c.args.object c.args.ring.now c.take_window.new.self c.take_window.ensures.rest c.take_window.ensures.absent

pub returns-then-place-eq-PROBATION : goal.returns-then-place-eq-PROBATION
returns-then-place-eq-PROBATION c =
    probation-leaves c.args.object c.args.ring.now c.take_probation.new.self (sym c.place-place.ensures.window ∙ ne_eqb c.place-place.result 1 c.if-place-eq-WINDOW.false) c.take_probation.ensures.rest c.take_probation.ensures.absent

pub returns-then-place-eq-PROTECTED : goal.returns-then-place-eq-PROTECTED
returns-then-place-eq-PROTECTED c =
    protected-leaves c.args.object c.args.ring.now c.take_protected.new.self (sym c.place-place.ensures.window ∙ ne_eqb c.place-place.result 1 c.if-place-eq-WINDOW.false) (sym c.place-place.ensures.probation ∙ ne_eqb c.place-place.result 2 c.if-place-eq-PROBATION.false)
    c.take_protected.ensures.rest

pub returns-else-place-eq-PROTECTED : goal.returns-else-place-eq-PROTECTED
returns-else-place-eq-PROTECTED c =
    none-leaves c.args.object c.args.ring.now (sym c.place-place.ensures.window ∙ ne_eqb c.place-place.result 1 c.if-place-eq-WINDOW.false) (sym c.place-place.ensures.probation ∙ ne_eqb c.place-place.result 2 c.if-place-eq-PROBATION.false)
    (sym c.place-place.ensures.protected ∙ ne_eqb c.place-place.result 3 c.if-place-eq-PROTECTED.false)
