use Rattle.std.proofs.Common.{◌-◌, ◌/◌, sym, refl, subst, arith}
use Rattle.std.proofs.lemmas.Result.{err_from_is_err_and}
use Rattle.flow_model.specs.Instances.{arc_at, no_arc}
use Rattle.flow_windows.specs.Cuts.{WindowLists}
use Rattle.flow_windows.proofs.Starting.{AreBegun, begun_none, begun_more, begun_all}
use Rattle.flow_windows.proofs.starts.Starts.new.Goals as goal

pub loop-number-preserved : goal.loop-number-preserved
loop-number-preserved c =
    let arcs = c.args.arcs.now in
    let number = c.loop-number.number in
    subst (λ (lists : WindowLists). AreBegun c.args.width arcs c.args.windows lists (number - 1)) (sym c.add.ensures)
    (begun_more c.args.width arcs c.args.windows c.loop-number.starts number (number - 1) ((arc_at arcs (number - 1)).start / c.args.width) c.loop-number.invariant (omega arith) (omega arith) refl
    (c.requires.windows (number - 1) no_arc (omega arith)))

pub returns-in_err-first-clause-starts : goal.returns-in_err-first-clause-starts
returns-in_err-first-clause-starts c = rw (err_from_is_err_and c.from_residual.result c.from_residual.ensures.1).1 tt

pub returns-in_err-first-clause-windows : goal.returns-in_err-first-clause-windows
returns-in_err-first-clause-windows c = rw (err_from_is_err_and c.from_residual.result c.from_residual.ensures.1).1 tt

pub returns-in_err-next-clause-starts : goal.returns-in_err-next-clause-starts
returns-in_err-next-clause-starts c = rw (err_from_is_err_and c.from_residual-in_err-next.result c.from_residual-in_err-next.ensures.1).1 tt

pub returns-in_err-next-clause-windows : goal.returns-in_err-next-clause-windows
returns-in_err-next-clause-windows c = rw (err_from_is_err_and c.from_residual-in_err-next.result c.from_residual-in_err-next.ensures.1).1 tt

pub overflow_step-number : goal.overflow_step-number
overflow_step-number c = omega (arith, c.loop-number-test.true)

pub bounds-arcs-number : goal.bounds-arcs-number
bounds-arcs-number c = omega (arith, c.loop-number-test.true, c.loop-number.auto.number)

pub nonzero_div-arcs : goal.nonzero_div-arcs
nonzero_div-arcs c = c.requires.width

pub add-requires-clause-number : goal.add-requires-clause-number
add-requires-clause-number c = omega (arith, c.loop-number.invariant.each_arc, c.loop-number-test.true, c.loop-number.auto.number)

pub add-requires-clause-window : goal.add-requires-clause-window
add-requires-clause-window c = omega (arith, c.loop-number.invariant.each_window, c.requires.windows (c.loop-number.number - 1) no_arc (omega (arith, c.loop-number-test.true, c.loop-number.auto.number)))

pub loop-number-smaller : goal.loop-number-smaller
loop-number-smaller c = omega (arith, c.loop-number-test.true)

pub returns-clause-windows : goal.returns-clause-windows
returns-clause-windows c = c.loop-number.invariant.each_window

pub loop-number-init : goal.loop-number-init
loop-number-init c =
    begun_none c.args.width c.args.arcs.now c.args.windows c.in_ok-first.first.items c.in_ok-next.next.items (c.in_ok-first.ensures.items_if_clones_equal (λ y same. same))
    (c.in_ok-next.ensures.items_if_clones_equal (λ y same. same))

pub returns-clause-starts : goal.returns-clause-starts
returns-clause-starts c = begun_all c.args.width c.args.arcs.now c.args.windows c.loop-number.starts c.loop-number.number c.loop-number.invariant (omega (arith, c.loop-number-test.false))
