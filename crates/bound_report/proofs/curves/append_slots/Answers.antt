use Rattle.std.proofs.Common.{◌∙◌, ◌+◌, ◌++◌, ap, arith}
use Rattle.cache_model.specs.Texts.{line}
use Rattle.stack_curve.specs.Curves.{hits_with}
use Rattle.bound_report.specs.Curves.{slots_line}
use Rattle.bound_report.proofs.CurveLemmas.{line_appended, no_line}
use Rattle.bound_report.proofs.curves.append_slots.Goals.{then-hits+in_ok-append, else-hits}
use Rattle.bound_report.proofs.curves.append_slots.Goals as goal

pub loop-fewer-preserved : goal.loop-fewer-preserved
loop-fewer-preserved c =
    let hits = hits_with c.args.curve.now in
    let n = c.loop-fewer.fewer in
    elim c.if-hits.branch [
      | then-hits+in_ok-append w ↦ line_appended hits n c.args.text.now.items c.loop-fewer.text.items c.if-hits.text.items c.loop-fewer.invariant
          (omega (arith, w.if-hits.true, c.hits-hits.ensures, c.hits.ensures))
          (ap (λ v. v.items) w.text-is ∙ w.in_ok-append.ensures.text ∙ ap (λ l. c.loop-fewer.text.items ++ l) (w.slots_line.ensures ∙ ap (λ h. line (slots_line (n + 1) h)) c.hits-hits.ensures))
      | else-hits w ↦ no_line hits n c.args.text.now.items c.loop-fewer.text.items c.if-hits.text.items c.loop-fewer.invariant
          (omega (arith, w.if-hits.false, c.hits-hits.ensures, c.hits.ensures)) (ap (λ v. v.items) w.text-is)
    ]
