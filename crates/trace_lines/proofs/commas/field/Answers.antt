use Rattle.std.proofs.Common.{◌-◌, ◌+◌, ◌∙◌, [], sym, arith}
use Rattle.trace_lines.specs.Lines.{fields}
use Rattle.trace_lines.proofs.Cuts.{get-first, get-later, get-past}
use Rattle.trace_lines.proofs.commas.field.Goals as goal

pub loop-place-preserved : goal.loop-place-preserved
loop-place-preserved c =
    c.loop-place.invariant ∙ get-later (fields c.loop-place.rest.now) c.in_ok-others.field-0-0.now (fields c.in_ok-others.others.now) (c.args.number - c.loop-place._place) (c.args.number - (c.loop-place._place + 1)) c.in_ok-others.ensures (omega arith)

pub returns-in_err-others : goal.returns-in_err-others
returns-in_err-others c =
    rw c.from_residual.ensures
    (sym (c.loop-place.invariant ∙ get-past (fields c.loop-place.rest.now) c.loop-place.rest.now (c.args.number - c.loop-place._place) c.in_err-others.ensures (omega arith)))

pub returns-in-Some : goal.returns-in-Some
returns-in-Some c =
    sym (c.loop-place.invariant ∙ get-first (fields c.loop-place.rest.now) c.in-Some.found.now (fields c.in-Some.field-0-1.now) (c.args.number - c.loop-place._place) c.in-Some.ensures (omega arith))

pub returns-in-None : goal.returns-in-None
returns-in-None c =
    sym (c.loop-place.invariant ∙ get-first (fields c.loop-place.rest.now) c.loop-place.rest.now [] (c.args.number - c.loop-place._place) c.in-None.ensures (omega arith))
