use Rattle.std.proofs.Common.{◌-◌, ◌+◌, ◌∙◌, refl, sym, arith}
use Rattle.trace_lines.specs.Lines.{words}
use Rattle.trace_lines.proofs.Cuts.{get-first, get-later, get-none}
use Rattle.trace_lines.proofs.gaps.word.Goals as goal

pub loop-place-init : goal.loop-place-init
loop-place-init c = refl

pub loop-place-preserved : goal.loop-place-preserved
loop-place-preserved c =
    c.loop-place.invariant ∙ get-later (words c.loop-place.rest.now) c.in_ok-others.field-0-0.now (words c.in_ok-others.others.now) (c.args.number - c.loop-place._place) (c.args.number - (c.loop-place._place + 1)) c.in_ok-others.ensures.words (omega arith)

pub returns-in_err-others : goal.returns-in_err-others
returns-in_err-others c =
    rw c.from_residual.ensures (sym (c.loop-place.invariant ∙ get-none (words c.loop-place.rest.now) (c.args.number - c.loop-place._place) c.in_err-others.ensures.words))

pub returns-in_err-found : goal.returns-in_err-found
returns-in_err-found c =
    rw c.from_residual-in_err-found.ensures (sym (c.loop-place.invariant ∙ get-none (words c.loop-place.rest.now) (c.args.number - c.loop-place._place) c.in_err-found.ensures.words))

pub returns : goal.returns
returns c =
    sym (c.loop-place.invariant ∙ get-first (words c.loop-place.rest.now) c.in_ok-found.found.now (words c.in_ok-found.field-0-1.now) (c.args.number - c.loop-place._place) c.in_ok-found.ensures.words (omega arith))
