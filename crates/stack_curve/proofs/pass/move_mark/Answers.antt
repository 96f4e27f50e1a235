use Rattle.std.proofs.Common.{◌≡◌, ◌∙◌, ap, set, true, false, length, arith}
use Rattle.std.proofs.lemmas.List.{length-set}
use Rattle.stack_curve.proofs.CountLemmas.{marks-long, marks-new, marks-again}
use Rattle.stack_curve.proofs.pass.move_mark.Goals.{in-Some, in_default}
use Rattle.stack_curve.proofs.pass.move_mark.Goals as goal

pub set-requires : goal.set-requires
set-requires c =
    record { within = omega (arith, marks-long c.args.trace.now.objects c.args.t c.args.marks.now (omega arith) c.requires.marked, c.in-Some.ensures.nearest.before, c.requires.within) }

pub set-requires-2 : goal.set-requires-2
set-requires-2 c =
    let long : length c.args.marks.now ≡ length c.args.trace.now.objects = marks-long c.args.trace.now.objects c.args.t c.args.marks.now (omega arith) c.requires.marked in
    let same : length c.match-prev.marks ≡ length c.args.marks.now =
    elim c.match-prev.branch [
      | in-Some w ↦ ap length (w.marks-is ∙ w.set.ensures) ∙ length-set c.args.marks.now w.in-Some.last false
      | in_default w ↦ ap length w.marks-is
    ] in
    record { within = omega arith }

pub returns : goal.returns
returns c =
    record {
      marked = elim c.match-prev.branch [
        | in-Some w ↦
            c.set-2.ensures ∙ ap (λ marks. set marks c.args.t true) (w.marks-is ∙ w.set.ensures ∙ ap (λ marks. set marks w.in-Some.last false) c.requires.marked)
            ∙ marks-again c.args.trace.now.objects c.args.t c.requires.within w.in-Some.last w.in-Some.ensures.nearest
        | in_default w ↦
            c.set-2.ensures ∙ ap (λ marks. set marks c.args.t true) (w.marks-is ∙ c.requires.marked) ∙ marks-new c.args.trace.now.objects c.args.t c.requires.within w.in_default.ensures.nearest
      ];
    }
